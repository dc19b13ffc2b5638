-- The lower of two rows.
use Rattle.std.specs.Prelude.{Option, Some, None, cond}
use Rattle.std.specs.declared.cmp.Ordering.{Ordering}
use Rattle.std.specs.Ordering.{is_gt}

-- the lower of two, the first of two that are equal, and the other where one is not there
abbrev pub lower_of : {R : Type 0} → (R → R → Ordering) → Option R → Option R → Option R
lower_of cmp None b = b
lower_of cmp (Some x) None = Some x
lower_of cmp (Some x) (Some y) = cond (is_gt (cmp x y)) (Some y) (Some x)
