use Rattle.std.proofs.Common.{◌≤◌, ◌-◌, drop, take}
use Rattle.optra_prices.specs.Tables.{AddsTouches}
use Rattle.optra_prices.proofs.touching.touch_named.Given as goal

abbrev pub invariant-loop-place : goal.invariant-loop-place
invariant-loop-place g l = record {
  from : l.start ≤ l.place;
  touches : AddsTouches l.named.items ((g.F.RowFamily.rows_of l.rows l.net).uses l.kind l.leg) (take (l.place - l.start) (drop l.start l.named.items)) l.initial.touches l.touches;
}
