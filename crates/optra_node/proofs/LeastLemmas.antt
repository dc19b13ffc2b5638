-- The least of the overfull rows.
use Rattle.std.proofs.Common.{◌≡◌, ℕ, ◌+◌, ◌<◌, ◌≤◌, ◌↔◌, false, List, [], ◌∷◌, length, get_or, slice_get, Some, None, IfSome, sym, ap, ◌∙◌, subst, arith, inl, inr}
use Rattle.std.specs.Prelude.{Contains}
use Rattle.std.specs.declared.cmp.Ordering.{Ordering}
use Rattle.std.specs.Cmp.{IsTotalOrder}
use Rattle.std.specs.Ordering.{is_gt}
use Rattle.std.proofs.lemmas.Bool.{cases_lt}
use Rattle.std.proofs.lemmas.Cmp.{tied_itself}
use Rattle.std.proofs.lemmas.Option.{slice_get-get_or, slice_get_within, get_or_from_slice_get}
use Rattle.optra_walk.specs.Families.{Ascends}
use Rattle.optra_node.specs.Nodes.{IsLeast}
use Rattle.optra_node.proofs.RowLemmas.{ascending_pairs}

-- what is true below a place and at the place is true below the next one
pub some_more : {R : Type 0} (P : R → Type 0) (rows : List R) (k : ℕ) (row : R) → ((j : ℕ) → j < k → IfSome (slice_get rows j) P) → slice_get rows k ≡ Some row → P row
    → (j : ℕ) → j < k + 1 → IfSome (slice_get rows j) P
some_more P rows k row h at fits j l = elim (cases_lt j k) as (λ _. IfSome (slice_get rows j) P) [
  | inl b ↦ h j b
  | inr ge ↦ let same : k ≡ j = omega arith in subst (λ n. IfSome (slice_get rows n) P) same (subst (λ o. IfSome o P) (sym at) fits)
]

-- and so of each element, where the places are all
pub all_of_some : {R : Type 0} (P : R → Type 0) (rows : List R) (n : ℕ) → length rows ≤ n → ((j : ℕ) → j < n → IfSome (slice_get rows j) P) → (row : R) → Contains rows row → P row
all_of_some P rows n few h row (k, l, e) =
    let at : slice_get rows k ≡ Some row = slice_get-get_or rows k row l ∙ ap Some e in
    subst (λ o. IfSome o P) at (h k (omega arith))

pub at_contains : {R : Type 0} (rows : List R) (k : ℕ) (row : R) → slice_get rows k ≡ Some row → Contains rows row
at_contains rows k row e = (k, slice_get_within rows k row e, get_or_from_slice_get rows k row row e)

pub none_past : {R : Type 0} (rows : List R) (k : ℕ) → slice_get rows k ≡ None → length rows ≤ k
none_past {R} rows k e = elim (cases_lt k (length rows)) as (λ _. length rows ≤ k) [
  | inl l ↦ absurd (go rows k l e)
  | inr le ↦ le
]
  where
    none_is : {X : Type 0} (x : X) → Some x ≡ None → ⊥
    none_is x h = cc

    go : (xs : List R) (k : ℕ) → k < length xs → slice_get xs k ≡ None → ⊥
    go [] k l h = absurd (omega arith)
    go (x ∷ xs) k l h = none_is (get_or (x ∷ xs) k x) (sym (slice_get-get_or (x ∷ xs) k x l) ∙ h)

module _ {R : Type 0} (cmp : R → R → Ordering) (total : IsTotalOrder cmp) where
  -- the first row of a list in order that is not passed is the least of those that are not
  module _ (rows : List R) (ascends : Ascends cmp rows) (uses : R → ℕ) (used : (row : R) → (0 < uses row) ↔ Contains rows row) (Fits Over : R → Type 0) (clash : (row : R) → Fits row → Over row → ⊥) where
    pub none_over : (n : ℕ) → length rows ≤ n → ((j : ℕ) → j < n → IfSome (slice_get rows j) Fits) → (row : R) → (0 < uses row) × Over row → ⊥
    none_over n few h row (pos, over) = clash row (all_of_some Fits rows n few h row ((used row).0 pos)) over

    pub first_over : (k : ℕ) (row : R) → slice_get rows k ≡ Some row → ((j : ℕ) → j < k → IfSome (slice_get rows j) Fits) → Over row → IsLeast cmp (λ row. (0 < uses row) × Over row) row
    first_over k row at h over = record { is_one = ((used row).1 (at_contains rows k row at), over); least = λ other p. by other p.1 ((used other).0 p.0) }
      where
        by : (other : R) → Over other → Contains rows other → is_gt (cmp row other) ≡ false
        by other over' (i, l, e) =
            let there : slice_get rows i ≡ Some other = slice_get-get_or rows i other l ∙ ap Some e in
            elim (cases_lt i k) as (λ _. is_gt (cmp row other) ≡ false) [
              | inl before ↦ absurd (clash other (subst (λ o. IfSome o Fits) there (h i before)) over')
              | inr ge ↦ elim (cases_lt k i) as (λ _. is_gt (cmp row other) ≡ false) [
                | inl after ↦
                    let a : get_or rows k other ≡ row = get_or_from_slice_get rows k row other at in
                    let less = ascending_pairs cmp rows ascends k i other after l in
                    ap is_gt (ap (λ r. cmp r other) (sym a) ∙ ap (cmp (get_or rows k other)) (sym e) ∙ less)
                | inr le ↦
                    let same : i ≡ k = omega arith in
                    let q : row ≡ other = by_some (sym at ∙ ap (slice_get rows) (sym same) ∙ there) in
                    ap (λ r. is_gt (cmp row r)) (sym q) ∙ ap is_gt (tied_itself total row)
              ]
            ]
          where
            by_some : {X : Type 0} {x y : X} → Some x ≡ Some y → x ≡ y
            by_some e = cc
