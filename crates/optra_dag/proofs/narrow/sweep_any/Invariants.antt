-- The sums of all nodes by the arcs from this one on are there.
use Rattle.std.proofs.Common.{◌≡◌, ◌≤◌, length}
use Rattle.optra_dag.specs.NarrowSums.{arc_value, AreBestFrom}
use Rattle.optra_dag.proofs.narrow.sweep_any.Given as goal

abbrev pub invariant-arcs : goal.invariant-arcs
invariant-arcs g l = record {
  long : length l.sums ≡ length l.ends;
  few : l.left ≤ length l.arcs;
  best : AreBestFrom l.arcs l.ends (arc_value (g.W.NarrowWeight.allows l.weight) (g.W.NarrowWeight.weight l.weight)) l.sums l.left;
}

abbrev pub decreases-arcs : goal.decreases-arcs
decreases-arcs g l = l.left
