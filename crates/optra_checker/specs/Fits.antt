-- Totals within capacities.
use Rattle.std.specs.Prelude.{◌≡◌, ℕ, ◌<◌, ◌≤◌, true}
use Rattle.optra_walk.specs.Families.{Rows}

-- what has a total is a row and has at most its capacity
abbrev pub AreWithin : {R : Type 0} → Rows R → (R → ℕ) → Type 0
AreWithin {R} rows total = (row : R) → 0 < total row → (rows.is_row row ≡ true) × (total row ≤ rows.capacity row)
