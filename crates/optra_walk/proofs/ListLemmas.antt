-- Lists to which the elements of another one are added, one after the other.
use Rattle.std.proofs.Common.{◌≡◌, ℕ, zero, suc, ◌+◌, ◌≤◌, inl, inr, List, [], ◌∷◌, ◌++◌, map, length, drop, append_assoc, All, Option, Some, None, IsSome, slice_get, refl, sym, ap, ◌∙◌, subst, arith}
use Rattle.std.proofs.lemmas.Bool.{true≢false}
use Rattle.std.proofs.lemmas.List.{append-nil, drop_all}
use Rattle.std.proofs.lemmas.Option.{same_Some, none-some}
use Rattle.optra_network.proofs.MemberLemmas.{contains_from, all_from_in, in_append, in_append_right, in_map_from}
use Rattle.optra_walk.specs.RowLists.{rows_in, AreCodes, StartsUntold}

-- an element, and those after it
pub drop_at : {X : Type 0} (xs : List X) (k : ℕ) (x : X) → slice_get xs k ≡ Some x → drop k xs ≡ x ∷ drop (suc k) xs
drop_at [] k x e = absurd (none-some x e)
drop_at (y ∷ xs) zero x e = ap (λ z. z ∷ xs) (same_Some y x e)
drop_at (y ∷ xs) (suc k) x e = drop_at xs k x e

-- no element stands past the last one
pub none_there : {X : Type 0} (xs : List X) (k : ℕ) → slice_get xs k ≡ None → length xs ≤ k
none_there [] k e = omega arith
none_there (x ∷ xs) zero e = absurd (none-some x (sym e))
none_there (x ∷ xs) (suc k) e = let l = none_there xs k e in omega arith

-- the next one is added, and fewer are left
pub listed_more : {X : Type 0} (old list new xs : List X) (k : ℕ) (x : X) → list ++ drop k xs ≡ old → slice_get xs k ≡ Some x → new ≡ list ++ x ∷ [] → new ++ drop (k + 1) xs ≡ old
listed_more old list new xs k x is at pushed =
    let one : k + 1 ≡ suc k = omega arith in
    ap (λ (ys : List _). ys ++ drop (k + 1) xs) pushed
    ∙ append_assoc list (x ∷ []) (drop (k + 1) xs)
    ∙ ap (λ (j : ℕ). list ++ x ∷ drop j xs) one
    ∙ ap (λ (ys : List _). list ++ ys) (sym (drop_at xs k x at))
    ∙ is

-- none is left
pub listed_all : {X : Type 0} (old list xs : List X) (k : ℕ) → list ++ drop k xs ≡ old → length xs ≤ k → list ≡ old
listed_all old list xs k is l = sym (append-nil list) ∙ ap (λ (ys : List _). list ++ ys) (sym (drop_all k xs l)) ∙ is

-- ---- rows, of which the first ones are told by numbers

-- where no other rows are there, each row has a number
pub all_have_numbers : {R : Type 0} (code_of : R → Option ℕ) (row_of : ℕ → R) (codes : List ℕ) (wide : List R) → AreCodes code_of row_of codes → length wide ≡ 0
    → All (λ (row : R). IsSome (code_of row)) (rows_in row_of codes wide)
all_have_numbers code_of row_of codes [] told none = all_from_in (λ (row : _). IsSome (code_of row)) (map row_of codes ++ []) (λ row i. elim (in_append (map row_of codes) [] row i) [
  | inl m ↦
      let made = in_map_from row_of codes row m in
      let at = contains_from codes made.source made.inside in
      let code_is : code_of (row_of made.source) ≡ Some made.source = subst (λ (n : ℕ). code_of (row_of n) ≡ Some n) at.2 (told at.0 made.source at.1) in
      subst (λ (o : Option ℕ). IsSome o) (sym (ap code_of (sym made.is) ∙ code_is)) refl
  | inr m ↦ absurd m
])
all_have_numbers code_of row_of codes (w ∷ wide) told none = absurd (omega arith)

-- where others are there, the first of them has none
pub some_has_none : {R : Type 0} (code_of : R → Option ℕ) (row_of : ℕ → R) (codes : List ℕ) (wide : List R) → StartsUntold code_of wide → (length wide ≡ 0 → ⊥)
    → All (λ (row : R). IsSome (code_of row)) (rows_in row_of codes wide) → ⊥
some_has_none code_of row_of codes [] untold some all = some refl
some_has_none code_of row_of codes (w ∷ wide) untold some all =
    let inside = contains_from (map row_of codes ++ w ∷ wide) w (in_append_right (map row_of codes) (w ∷ wide) w (inl refl)) in
    let here : IsSome (code_of w) = subst (λ (row : _). IsSome (code_of row)) inside.2 (all inside.0 w inside.1) in
    absurd (true≢false (sym (subst (λ (o : Option ℕ). IsSome o) untold here)))
