-- The sums of all nodes by the arcs from this one on are there, and that of the last arc's node is at hand.
use Rattle.std.proofs.Common.{◌≡◌, ◌≤◌, ◌<◌, ◌⊎◌, length, get_or, pos}
use Rattle.optra_dag.specs.Paths.{no_arc}
use Rattle.optra_dag.specs.NarrowSums.{arc_value, AreBestFrom}
use Rattle.optra_dag.proofs.narrow.sweep_inner.Given as goal

abbrev pub invariant-arcs : goal.invariant-arcs
invariant-arcs g l = record {
  long : length l.sums ≡ length l.ends;
  few : l.left ≤ length l.arcs;
  best : AreBestFrom l.arcs l.ends (arc_value (g.W.NarrowWeight.allows l.weight) (g.W.NarrowWeight.weight l.weight)) l.sums l.left;
  inside : l.node < length l.sums;
  best_at : l.best ≡ get_or l.sums l.node (pos 0);
  at : (l.left ≡ length l.arcs) ⊎ ((get_or l.arcs l.left no_arc).from ≡ l.node);
}

abbrev pub decreases-arcs : goal.decreases-arcs
decreases-arcs g l = l.left
