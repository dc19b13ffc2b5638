-- An arc from here on gives the sum, and none before does.
use Rattle.std.proofs.Common.{◌≡◌, ◌≢◌, ◌≤◌, ◌<◌, ◌-◌, ℕ}
use Rattle.optra_dag.specs.Spans.{StandsIn}
use Rattle.optra_dag.specs.NarrowSums.{arc_value, sum_by}
use Rattle.optra_dag.proofs.narrow.first_arc_by.Given as goal

abbrev pub invariant-arcs : goal.invariant-arcs
invariant-arcs g l = record {
  from : l.fn.span.start ≤ l.k;
  one : (j : ℕ) × StandsIn (record { start = l.k; stop = l.fn.span.stop }) j × (sum_by l.arcs (arc_value (g.W.NarrowWeight.allows l.weight) (g.W.NarrowWeight.weight l.weight)) l.sums j ≡ l.sum);
  passed : (j : ℕ) → StandsIn l.fn.span j → j < l.k → sum_by l.arcs (arc_value (g.W.NarrowWeight.allows l.weight) (g.W.NarrowWeight.weight l.weight)) l.sums j ≢ l.sum;
}

abbrev pub decreases-arcs : goal.decreases-arcs
decreases-arcs g l = l.fn.span.stop - l.k
