-- The texts of rows, segment by segment.
use Rattle.std.proofs.Common.{◌≡◌, ℕ, zero, suc, ◌+◌, List, [], ◌∷◌, ◌++◌, map, length, get_or, take, not, true, ◌<◌, refl, sym, ap, ◌∙◌, arith, append_assoc}
use Rattle.std.specs.Prelude.{codes}
use Rattle.std.specs.List.{flat_map, range_with_len}
use Rattle.std.proofs.lemmas.Bool.{ne_eqb}
use Rattle.std.proofs.lemmas.List.{append-nil, map-append, take_more}
use Rattle.std.specs.Fmt.{decimal}
use Rattle.std.proofs.lemmas.Grind.{flat_map-append}
use Rattle.optra_records.specs.Reading.{Record}
use Rattle.optra_records.specs.Texts.{is_shown, record_text, records_text}
use Rattle.optra_demo.specs.Names.{named}

-- one number more
pub range_more : (a k : ℕ) → range_with_len a (k + 1) ≡ range_with_len a k ++ (a + k) ∷ []
range_more a zero = let e : a ≡ a + 0 = omega arith in ap (λ (n : ℕ). n ∷ []) e
range_more a (suc k) =
    let e : a + 1 + k ≡ a + suc k = omega arith in
    let s : suc k + 1 ≡ suc (k + 1) = omega arith in
    ap (range_with_len a) s ∙ ap (λ (r : List ℕ). a ∷ r) (range_more (a + 1) k) ∙ ap (λ (n : ℕ). a ∷ (range_with_len (a + 1) k ++ n ∷ [])) e

-- the text of the rows of one number more
pub rows_more : (f : ℕ → List Record) (k : ℕ) → records_text (flat_map f (range_with_len 1 (k + 1))) ≡ records_text (flat_map f (range_with_len 1 k)) ++ records_text (f (k + 1))
rows_more f k =
    let r = range_more 1 k in
    let s = flat_map-append f (range_with_len 1 k) ((1 + k) ∷ []) in
    let n = append-nil (f (1 + k)) in
    let t = flat_map-append record_text (flat_map f (range_with_len 1 k)) (f (1 + k)) in
    let e : 1 + k ≡ k + 1 = omega arith in
    ap (λ (xs : List ℕ). records_text (flat_map f xs)) r ∙ ap records_text s ∙ ap (λ (rows : List Record). records_text (flat_map f (range_with_len 1 k) ++ rows)) n
    ∙ t ∙ ap (λ (m : ℕ). records_text (flat_map f (range_with_len 1 k)) ++ records_text (f m)) e

-- and behind a text
pub rows_behind : (f : ℕ → List Record) (k : ℕ) (text : List ℕ)
    → (text ++ records_text (flat_map f (range_with_len 1 k))) ++ records_text (f (k + 1)) ≡ text ++ records_text (flat_map f (range_with_len 1 (k + 1)))
rows_behind f k text = append_assoc text (records_text (flat_map f (range_with_len 1 k))) (records_text (f (k + 1))) ∙ ap (λ (t : List ℕ). text ++ t) (sym (rows_more f k))

-- what is printed behind a text, one segment more
pub rows_kept : (f : ℕ → List Record) (k : ℕ) (start before after : List ℕ) → before ≡ start ++ records_text (flat_map f (range_with_len 1 k)) → after ≡ before ++ records_text (f (k + 1))
    → after ≡ start ++ records_text (flat_map f (range_with_len 1 (k + 1)))
rows_kept f k start before after b a = a ∙ ap (λ (t : List ℕ). t ++ records_text (f (k + 1))) b ∙ rows_behind f k start

-- a station's record has a field that isn't empty
pub station_shown : (fields : Record) (i : ℕ) → fields ≡ named (codes "S") i ∷ [] → is_shown fields ≡ true
unfolding named
station_shown fields i e =
    let some = ne_eqb (suc (length (decimal i))) 0 (λ e. let f : suc (length (decimal i)) ≡ 0 = e in absurd (omega arith)) in
    rw e (ap not some)

-- what is printed behind a text, one element of a list more
pub mapped_kept : {X : Type 0} (f : X → Record) (xs : List X) (i : ℕ) (x : X) (start before after : List ℕ) → i < length xs → x ≡ get_or xs i x
    → before ≡ start ++ records_text (map f (take i xs)) → after ≡ before ++ record_text (f x) → after ≡ start ++ records_text (map f (take (i + 1) xs))
mapped_kept {X} f xs i x start before after l is b a =
    let t = take_more xs i x l in
    let m = map-append f (take i xs) (get_or xs i x ∷ []) in
    let r = flat_map-append record_text (map f (take i xs)) (f (get_or xs i x) ∷ []) in
    let n = append-nil (record_text (f (get_or xs i x))) in
    let whole : records_text (map f (take (i + 1) xs)) ≡ records_text (map f (take i xs)) ++ record_text (f x) =
    ap (λ (ys : List X). records_text (map f ys)) t ∙ ap records_text m ∙ r ∙ ap (λ (ys : List ℕ). records_text (map f (take i xs)) ++ ys) n
    ∙ ap (λ (y : X). records_text (map f (take i xs)) ++ record_text (f y)) (sym is) in
    a ∙ ap (λ (ys : List ℕ). ys ++ record_text (f x)) b ∙ append_assoc start (records_text (map f (take i xs))) (record_text (f x)) ∙ ap (λ (ys : List ℕ). start ++ ys) (sym whole)
