-- Numbers that rise, lists that ascend, and parts of lists.
use Rattle.std.proofs.Common.{◌≡◌, ℕ, zero, suc, ◌+◌, ◌-◌, ◌<◌, ◌≤◌, ◌&&◌, inl, inr, Bool, true, false, cond, not, Some, None, Option, List, [], ◌∷◌, ◌++◌, map, length, slice_get, drop, refl, sym, ap, ◌∙◌, subst, arith}
use Rattle.std.specs.Prelude.{⊤, filter}
use Rattle.std.specs.List.{range_with_len, position_or_len}
use Rattle.std.specs.Option.{option_map}
use Rattle.std.specs.declared.cmp.Ordering.{Ordering}
use Rattle.std.specs.declared.cmp.Ordering.TheVariants.{Less}
use Rattle.optra_network.proofs.MemberLemmas.{In, contains_from, all_from_in, in_append, in_map_from, in_filter_from, in_range_from}
use Rattle.optra_walk.specs.Families.{Ascends}
use Rattle.optra_rows.specs.Headways.{kept}

-- ---- numbers that rise
abbrev pub Rises : List ℕ → Type 0
Rises [] = ⊤
Rises (x ∷ xs) = ((y : ℕ) → In y xs → x < y) × Rises xs

pub rises_range : (a n : ℕ) → Rises (range_with_len a n)
rises_range a zero = tt
rises_range a (suc n) = ((λ y i. let r = in_range_from (a + 1) n y i in omega (arith, r)), rises_range (a + 1) n)

pub rises_filter : (p : ℕ → Bool) (xs : List ℕ) → Rises xs → Rises (filter p xs)
rises_filter p [] h = tt
rises_filter p (x ∷ xs) h = go (p x) (rises_filter p xs h.1)
  where
    go : (b : Bool) → Rises (filter p xs) → Rises (cond b (x ∷ filter p xs) (filter p xs))
    go true r = ((λ y i. h.0 y (in_filter_from p xs y i).inside), r)
    go false r = r

-- numbers that rise are no more than lie between their bounds
pub rises_few : (low high : ℕ) (xs : List ℕ) → low ≤ high → ((x : ℕ) → In x xs → (low ≤ x) × (x < high)) → Rises xs → low + length xs ≤ high
rises_few low high [] le within h = omega arith
rises_few low high (x ∷ xs) le within h =
    let own = within x (inl refl) in
    let more = rises_few (x + 1) high xs (omega (arith, own)) (λ y i. (let l = h.0 y i in omega arith, (within y (inr i)).1)) h.1 in
    omega (arith, own, more)

module _ {Row : Type 0} (cmp : Row → Row → Ordering) where
  pub ascends_map : (f : ℕ → Row) (xs : List ℕ) → ((a b : ℕ) → In a xs → In b xs → a < b → cmp (f a) (f b) ≡ Less) → Rises xs → Ascends cmp (map f xs)
  ascends_map f [] mono h = tt
  ascends_map f (x ∷ xs) mono h = (
    all_from_in (λ y. cmp (f x) y ≡ Less) (map f xs) (λ y i.
        let m = in_map_from f xs y i in subst (λ z. cmp (f x) z ≡ Less) m.is (mono x m.source (inl refl) (inr m.inside) (h.0 m.source m.inside))),
    ascends_map f xs (λ a b i j l. mono a b (inr i) (inr j) l) h.1,
  )

  pub ascends_append : (xs ys : List Row) → Ascends cmp xs → Ascends cmp ys → ((x y : Row) → In x xs → In y ys → cmp x y ≡ Less) → Ascends cmp (xs ++ ys)
  ascends_append [] ys hx hy below = hy
  ascends_append (x ∷ xs) ys hx hy below = (
    all_from_in (λ y. cmp x y ≡ Less) (xs ++ ys) (λ y i. elim (in_append xs ys y i) [
      | inl a ↦ let c = contains_from xs y a in subst (λ z. cmp x z ≡ Less) c.2 (hx.0 c.0 y c.1)
      | inr b ↦ below x y (inl refl) b
    ]),
    ascends_append xs ys hx.1 hy (λ a b i j. below a b (inr i) j),
  )

-- ---- a run of a list that rises
module _ (low up : ℕ → Bool) where
  abbrev both : ℕ → Bool
  both x = low x && up x

  filter_all : (xs : List ℕ) → ((x : ℕ) → In x xs → low x ≡ true) → filter both xs ≡ filter up xs
  filter_all [] h = refl
  filter_all (x ∷ xs) h =
      (λ i. cond (h x (inl refl) i && up x) (x ∷ filter both xs) (filter both xs))
      ∙ ap (λ l. cond (up x) (x ∷ l) l) (filter_all xs (λ y i. h y (inr i)))

  pub filter_from : (xs : List ℕ) → ((x y : ℕ) → x < y → low x ≡ true → low y ≡ true) → Rises xs
      → filter (λ x. low x && up x) xs ≡ filter up (drop (position_or_len low xs) xs)
  filter_from [] mono h = refl
  filter_from (x ∷ xs) mono h = go (low x) refl (filter_from xs mono h.1)
    where
      go : (b : Bool) → low x ≡ b → filter both xs ≡ filter up (drop (position_or_len low xs) xs) → filter both (x ∷ xs) ≡ filter up (drop (position_or_len low (x ∷ xs)) (x ∷ xs))
      go true e rest =
          filter_all (x ∷ xs) (λ y i. elim i [ inl s ↦ ap low (sym s) ∙ e | inr j ↦ mono x y (h.0 y j) e ])
          ∙ ap (λ b. filter up (drop (cond (not b) (1 + position_or_len low xs) 0) (x ∷ xs))) (sym e)
      go false e rest =
          (λ i. cond (e i && up x) (x ∷ filter both xs) (filter both xs))
          ∙ rest
          ∙ ap (λ n. filter up (drop n (x ∷ xs))) (let s : suc (position_or_len low xs) ≡ 1 + position_or_len low xs = omega arith in s)
          ∙ ap (λ b. filter up (drop (cond (not b) (1 + position_or_len low xs) 0) (x ∷ xs))) (sym e)

module _ (up : ℕ → Bool) where
  kept_none : (xs : List ℕ) (k : ℕ) → ((x : ℕ) → In x xs → up x ≡ false) → kept up (slice_get xs k) ≡ None
  kept_none [] k h = refl
  kept_none (x ∷ xs) zero h = ap (λ b. cond b (Some x) None) (h x (inl refl))
  kept_none (x ∷ xs) (suc k) h = kept_none xs k (λ y i. h y (inr i))

  filter_none : (xs : List ℕ) → ((x : ℕ) → In x xs → up x ≡ false) → filter up xs ≡ []
  filter_none [] h = refl
  filter_none (x ∷ xs) h = ap (λ b. cond b (x ∷ filter up xs) (filter up xs)) (h x (inl refl)) ∙ filter_none xs (λ y i. h y (inr i))

  pub slice_get-filter_until : (xs : List ℕ) (k : ℕ) → ((x y : ℕ) → x < y → up x ≡ false → up y ≡ false) → Rises xs → slice_get (filter up xs) k ≡ kept up (slice_get xs k)
  slice_get-filter_until [] k mono h = refl
  slice_get-filter_until (x ∷ xs) k mono h = go (up x) refl k (λ j. slice_get-filter_until xs j mono h.1)
    where
      go : (b : Bool) → up x ≡ b → (k : ℕ) → ((j : ℕ) → slice_get (filter up xs) j ≡ kept up (slice_get xs j)) → slice_get (filter up (x ∷ xs)) k ≡ kept up (slice_get (x ∷ xs) k)
      go true e zero rest = ap (λ b. slice_get (cond b (x ∷ filter up xs) (filter up xs)) zero) e ∙ ap (λ b. cond b (Some x) None) (sym e)
      go true e (suc k) rest = ap (λ b. slice_get (cond b (x ∷ filter up xs) (filter up xs)) (suc k)) e ∙ rest k
      go false e k rest =
          ap (λ l. slice_get l k) (filter_none (x ∷ xs) (λ y i. elim i [ inl s ↦ ap up (sym s) ∙ e | inr j ↦ mono x y (h.0 y j) e ]))
          ∙ sym (kept_none (x ∷ xs) k (λ y i. elim i [ inl s ↦ ap up (sym s) ∙ e | inr j ↦ mono x y (h.0 y j) e ]))

pub slice_get-drop : {X : Type 0} (n : ℕ) (xs : List X) (k : ℕ) → slice_get (drop n xs) k ≡ slice_get xs (n + k)
slice_get-drop zero xs k = ap (slice_get xs) (let e : k ≡ 0 + k = omega arith in e)
slice_get-drop (suc n) [] k = refl
slice_get-drop (suc n) (x ∷ xs) k = slice_get-drop n xs k ∙ ap (slice_get (x ∷ xs)) (let e : suc (n + k) ≡ suc n + k = omega arith in e)

pub slice_get-append : {X : Type 0} (xs ys : List X) (k : ℕ) → length xs ≤ k → slice_get (xs ++ ys) k ≡ slice_get ys (k - length xs)
slice_get-append [] ys k l = ap (slice_get ys) (let e : k ≡ k - 0 = omega arith in e)
slice_get-append (x ∷ xs) ys zero l = absurd (omega arith)
slice_get-append (x ∷ xs) ys (suc k) l = slice_get-append xs ys k (omega arith) ∙ ap (slice_get ys) (let e : k - length xs ≡ suc k - length (x ∷ xs) = omega arith in e)

pub slice_get-append_left : {X : Type 0} (xs ys : List X) (k : ℕ) → k < length xs → slice_get (xs ++ ys) k ≡ slice_get xs k
slice_get-append_left [] ys k l = absurd (omega arith)
slice_get-append_left (x ∷ xs) ys zero l = refl
slice_get-append_left (x ∷ xs) ys (suc k) l = slice_get-append_left xs ys k (omega arith)

pub slice_get-range : (a n k : ℕ) → k < n → slice_get (range_with_len a n) k ≡ Some (a + k)
slice_get-range a zero k l = absurd (omega arith)
slice_get-range a (suc n) zero l = ap Some (let e : a ≡ a + 0 = omega arith in e)
slice_get-range a (suc n) (suc k) l = slice_get-range (a + 1) n k (omega arith) ∙ ap Some (let e : a + 1 + k ≡ a + suc k = omega arith in e)

pub length-filter-le : {X : Type 0} (p : X → Bool) (xs : List X) → length (filter p xs) ≤ length xs
length-filter-le p [] = omega arith
length-filter-le p (x ∷ xs) = go (p x) (length-filter-le p xs)
  where
    go : (b : Bool) → length (filter p xs) ≤ length xs → length (cond b (x ∷ filter p xs) (filter p xs)) ≤ length (x ∷ xs)
    go true h = omega arith
    go false h = omega arith

pub rises_drop : (n : ℕ) (xs : List ℕ) → Rises xs → Rises (drop n xs)
rises_drop zero xs h = h
rises_drop (suc n) [] h = h
rises_drop (suc n) (x ∷ xs) h = rises_drop n xs h.1

-- ---- through a map

module _ {X Y : Type 0} (f : X → Y) where
  pub filter-map : (p : Y → Bool) (xs : List X) → filter p (map f xs) ≡ map f (filter (λ x. p (f x)) xs)
  filter-map p [] = refl
  filter-map p (x ∷ xs) = go (p (f x)) (filter-map p xs)
    where
      go : (b : Bool) → filter p (map f xs) ≡ map f (filter (λ x. p (f x)) xs)
          → cond b (f x ∷ filter p (map f xs)) (filter p (map f xs)) ≡ map f (cond b (x ∷ filter (λ x. p (f x)) xs) (filter (λ x. p (f x)) xs))
      go true e = ap (λ l. f x ∷ l) e
      go false e = e

  pub position_or_len-map : (p : Y → Bool) (xs : List X) → position_or_len p (map f xs) ≡ position_or_len (λ x. p (f x)) xs
  position_or_len-map p [] = refl
  position_or_len-map p (x ∷ xs) = ap (λ n. cond (not (p (f x))) (1 + n) 0) (position_or_len-map p xs)

  pub kept-map : (p : Y → Bool) (o : Option X) → kept p (option_map f o) ≡ option_map f (kept (λ x. p (f x)) o)
  kept-map p None = refl
  kept-map p (Some x) = go (p (f x))
    where
      go : (b : Bool) → cond b (Some (f x)) None ≡ option_map f (cond b (Some x) None)
      go true = refl
      go false = refl

  pub option_map-map : {Z : Type 0} (g : Y → Z) (o : Option X) → option_map g (option_map f o) ≡ option_map (λ x. g (f x)) o
  option_map-map g None = refl
  option_map-map g (Some x) = refl

  pub map-map : {Z : Type 0} (g : Y → Z) (xs : List X) → map g (map f xs) ≡ map (λ x. g (f x)) xs
  map-map g [] = refl
  map-map g (x ∷ xs) = ap (λ l. g (f x) ∷ l) (map-map g xs)
