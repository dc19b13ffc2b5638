use Rattle.std.proofs.Common.{◌≡◌, drop}
use Rattle.optra_walk.specs.Orders.{legs_cmp}
use Rattle.optra_walk.proofs.ordering.legs_order.Given as goal

abbrev pub invariant-loop-leg : goal.invariant-loop-leg
invariant-loop-leg l = legs_cmp l.a l.b ≡ legs_cmp (drop l.leg-index l.a) l.others
