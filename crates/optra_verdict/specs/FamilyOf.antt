-- A family of rows, as certificates speak of it.
use Rattle.std.specs.declared.cmp.Ordering.{Ordering}
use Rattle.optra_cert.specs.RowTexts.{RowTexts}
use Rattle.optra_walk.specs.Families.{Rows}

-- a family of rows: their order, what they are, and their texts
pub record FamilyOf (R : Type 0) : Type 0 where
  pub cmp : R → R → Ordering
  pub rows : Rows R
  pub texts : RowTexts R
