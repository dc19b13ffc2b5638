-- Rows in order.
use Rattle.std.proofs.Common.{◌≡◌, ℕ, zero, suc, ◌≤◌, Bool, true, List, [], ◌∷◌, arith, inl, inr}
use Rattle.std.specs.List.{AllPairs}
use Rattle.std.specs.declared.cmp.Ordering.{Ordering}
use Rattle.std.specs.declared.cmp.Ordering.TheVariants.{Less, Equal, Greater}
use Rattle.std.specs.Ordering.{is_eq}
use Rattle.std.proofs.lemmas.Bool.{cases_lt}
use Rattle.optra_walk.specs.Families.{Ascends, ListsRows}
use Rattle.optra_node.proofs.LoadLemmas.{take_out}

-- a test for equal answers true at Equal alone
pub equal_is : (o : Ordering) → is_eq o ≡ true → o ≡ Equal
equal_is Less e = cc
equal_is Equal e = cc
equal_is Greater e = cc

-- of rows that ascend, an earlier one is below a later one
pub ascending_pairs : {R : Type 0} (cmp : R → R → Ordering) (rows : List R) → Ascends cmp rows → AllPairs (λ a b. cmp a b ≡ Less) rows
ascending_pairs cmp [] h i j d l m = absurd (omega arith)
ascending_pairs cmp (row ∷ rows) h zero zero d l m = absurd (omega arith)
ascending_pairs cmp (row ∷ rows) h zero (suc j) d l m = h.0 j d (omega arith)
ascending_pairs cmp (row ∷ rows) h (suc i) zero d l m = absurd (omega arith)
ascending_pairs cmp (row ∷ rows) h (suc i) (suc j) d l m = ascending_pairs cmp rows h.1 i j d (omega arith) (omega arith)

-- a leg uses little of each row
pub uses_few : {R : Type 0} (cmp : R → R → Ordering) (is_row : R → Bool) (uses : R → ℕ) (rows : List R) → ListsRows cmp is_row uses rows → (row : R) → uses row ≤ 8192
uses_few cmp is_row uses rows lists row = elim (cases_lt 0 (uses row)) as (λ _. uses row ≤ 8192) [
  | inl l ↦ let t = take_out uses rows row ((lists.used row).0 l) in let s = t.1.sum in let few = lists.total in omega arith
  | inr z ↦ omega arith
]
