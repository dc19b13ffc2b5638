-- What holds of each of the first elements of a list, with one more, and of all of them.
use Rattle.std.proofs.Common.{◌≡◌, ℕ, zero, suc, ◌+◌, ◌<◌, ◌≤◌, List, [], ◌∷◌, ◌++◌, length, get_or, take, sym, ap, ◌∙◌, subst, arith}
use Rattle.std.specs.Prelude.{All}
use Rattle.std.proofs.lemmas.List.{length-append, take_more, take_all}
use Rattle.std.proofs.lemmas.List.Elements.{All-push}

-- what holds of the elements so far and of the next one
pub all_next : {X : Type 0} (P : X → Type 0) (xs : List X) (i : ℕ) (x : X) → i < length xs → x ≡ get_or xs i x → All P (take i xs) → P x → All P (take (i + 1) xs)
all_next P xs i x l at before here =
    let taken : take (i + 1) xs ≡ take i xs ++ x ∷ [] = take_more xs i x l ∙ ap (λ y. take i xs ++ y ∷ []) (sym at) in
    subst (All P) (sym taken) (All-push P (take i xs) x before here)

-- the same of the one at the place
pub all_next_at : {X : Type 0} (P : X → Type 0) (xs : List X) (i : ℕ) (d : X) → i < length xs → All P (take i xs) → P (get_or xs i d) → All P (take (i + 1) xs)
all_next_at P xs i d l before here = subst (All P) (sym (take_more xs i d l)) (All-push P (take i xs) (get_or xs i d) before here)

-- and of all of them
pub all_past : {X : Type 0} (P : X → Type 0) (xs : List X) (i : ℕ) → length xs ≤ i → All P (take i xs) → All P xs
all_past P xs i l h = subst (All P) (take_all i xs l) h

-- of each element by its position, with one more
each_push : {X : Type 0} (P : ℕ → X → Type 0) (xs : List X) (x : X) → ((k : ℕ) (d : X) → k < length xs → P k (get_or xs k d)) → P (length xs) x → (k : ℕ) (d : X) → k < length (xs ++ x ∷ []) → P k (get_or (xs ++ x ∷ []) k d)
each_push P [] x before here zero d l = here
each_push P [] x before here (suc k) d l = absurd (omega arith)
each_push P (y ∷ ys) x before here zero d l = before 0 d (omega arith)
each_push P (y ∷ ys) x before here (suc k) d l = each_push (λ n. P (suc n)) ys x (λ n e m. before (suc n) e (omega arith)) here k d (omega arith)

-- so many elements, and a fact of each by its position
pub record AreEach {X : Type 0} (P : ℕ → X → Type 0) (n : ℕ) (xs : List X) : Type 0 where
  pub count : length xs ≡ n
  pub each : (k : ℕ) (d : X) → k < length xs → P k (get_or xs k d)

pub each_next : {X : Type 0} (P : ℕ → X → Type 0) (xs more : List X) (x : X) (n : ℕ) → more ≡ xs ++ x ∷ [] → AreEach P n xs → P n x → AreEach P (n + 1) more
each_next P xs more x n made are here = subst (AreEach P (n + 1)) (sym made) (record {
  count = let c = are.count in omega (arith, c, length-append xs (x ∷ []));
  each = each_push P xs x are.each (subst (λ k. P k x) (sym are.count) here);
})
