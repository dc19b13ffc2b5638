-- The sums of the nodes before this one are those of their empty ways.
use Rattle.std.proofs.Common.{◌≡◌, ◌≤◌, length}
use Rattle.optra_dag.specs.NarrowSums.{AreEmptySums}
use Rattle.optra_dag.proofs.narrow.start.Given as goal

abbrev pub invariant-nodes : goal.invariant-nodes
invariant-nodes l = record {
  long : length l.sums.items ≡ length l.ends;
  few : l.node ≤ length l.ends;
  empty : AreEmptySums l.ends l.sums.items l.node;
}
