-- Lists that keep what passes a test.
use Rattle.std.proofs.Common.{◌≡◌, ℕ, ◌+◌, List, [], ◌∷◌, ◌++◌, map, append_assoc, append-nil, sym, ap, ◌∙◌, arith, Bool, true, false, cond, filter, take, length, get_or, zero, suc, ◌<◌, add-one}
use Rattle.std.proofs.lemmas.List.{map-append}

-- the filter of one more
filter_more : {X : Type 0} (p : X → Bool) (xs : List X) (i : ℕ) (d : X) (b : Bool) → i < length xs → p (get_or xs i d) ≡ b
    → filter p (take (suc i) xs) ≡ filter p (take i xs) ++ cond b (get_or xs i d ∷ []) []
-- the filter of one more
filter_more p [] i d b l e = absurd (omega arith)
-- the filter of one more
filter_more p (x ∷ xs) zero d true l e = ap (λ c. cond c (x ∷ []) []) e
-- the filter of one more
filter_more p (x ∷ xs) zero d false l e = ap (λ c. cond c (x ∷ []) []) e
-- the filter of one more
filter_more p (x ∷ xs) (suc i) d b l e = by (p x) (filter_more p xs i d b (omega arith) e)
  where
    by : (c : Bool) → filter p (take (suc i) xs) ≡ filter p (take i xs) ++ cond b (get_or xs i d ∷ []) []
        → cond c (x ∷ filter p (take (suc i) xs)) (filter p (take (suc i) xs)) ≡ cond c (x ∷ filter p (take i xs)) (filter p (take i xs)) ++ cond b (get_or xs i d ∷ []) []
    by true h = ap (λ t. x ∷ t) h
    by false h = h

-- one more that passes
pub keep_step : {X Y : Type 0} (f : X → Y) (p : X → Bool) (xs : List X) (i : ℕ) (d : X) (init ys zs : List Y) → i < length xs → p (get_or xs i d) ≡ true
    → ys ≡ init ++ map f (filter p (take i xs)) → zs ≡ ys ++ f (get_or xs i d) ∷ [] → zs ≡ init ++ map f (filter p (take (i + 1) xs))
keep_step {X = X} {Y = Y} f p xs i d init ys zs l e ey ez =
    ez ∙ ap (λ (t : List Y). t ++ f (get_or xs i d) ∷ []) ey ∙ append_assoc init (map f (filter p (take i xs))) (f (get_or xs i d) ∷ [])
    ∙ ap (λ (t : List Y). init ++ t) (sym (map-append f (filter p (take i xs)) (get_or xs i d ∷ [])) ∙ ap (map f) (sym (filter_more p xs i d true l e) ∙ ap (λ n. filter p (take n xs)) (sym (add-one i))))

-- one more that does not
pub pass_step : {X Y : Type 0} (f : X → Y) (p : X → Bool) (xs : List X) (i : ℕ) (d : X) (init ys : List Y) → i < length xs → p (get_or xs i d) ≡ false
    → ys ≡ init ++ map f (filter p (take i xs)) → ys ≡ init ++ map f (filter p (take (i + 1) xs))
pass_step {X = X} {Y = Y} f p xs i d init ys l e ey =
    ey ∙ ap (λ (t : List Y). init ++ t) (ap (map f) (sym (append-nil (filter p (take i xs))) ∙ sym (filter_more p xs i d false l e) ∙ ap (λ n. filter p (take n xs)) (sym (add-one i))))
