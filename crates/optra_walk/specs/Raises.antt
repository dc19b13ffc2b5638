-- Totals in which the first rows of a list were raised, or were lowered, by what a leg uses of each.
use Rattle.std.specs.Prelude.{◌≡◌, ℕ, ◌+◌, ◌<◌, ◌≤◌, List, Some, slice_get}
use Rattle.std.specs.declared.cmp.Ordering.{Ordering}
use Rattle.std.specs.declared.cmp.Ordering.TheVariants.{Equal}

-- the first k rows are raised by their use, and no others
pub record IsRaised {R : Type 0} (cmp : R → R → Ordering) (rows : List R) (uses before now : R → ℕ) (k : ℕ) : Type 0 where
  pub done : (j : ℕ) (row : R) → j < k → slice_get rows j ≡ Some row → now row ≡ before row + uses row
  pub rest : (q : R) → ((j : ℕ) (row : R) → j < k → slice_get rows j ≡ Some row → cmp row q ≡ Equal → ⊥) → now q ≡ before q

-- the first k rows are lowered by their use, and no others
pub record IsLowered {R : Type 0} (cmp : R → R → Ordering) (rows : List R) (uses before now : R → ℕ) (k : ℕ) : Type 0 where
  pub done : (j : ℕ) (row : R) → j < k → slice_get rows j ≡ Some row → now row + uses row ≡ before row
  pub rest : (q : R) → ((j : ℕ) (row : R) → j < k → slice_get rows j ≡ Some row → cmp row q ≡ Equal → ⊥) → now q ≡ before q

-- each of the first k rows has its use in the totals
abbrev pub AreEnough : {R : Type 0} → List R → (R → ℕ) → (R → ℕ) → ℕ → Type 0
AreEnough {R} rows uses totals k = (j : ℕ) (row : R) → j < k → slice_get rows j ≡ Some row → uses row ≤ totals row
