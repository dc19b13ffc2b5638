-- The path so far and what is left of the trace.
use Rattle.std.proofs.Common.{ℕ, ◌<◌, ◌-◌, ◌++◌, List, length}
use Rattle.optra_dag.specs.WaySums.{Traces}
use Rattle.optra_dag.proofs.searching.path_by.Given as goal

abbrev pub invariant-loop-node : goal.invariant-loop-node
invariant-loop-node l = record {
  within : l.node < length l.next;
  traced : (rest : List ℕ) × Traces l.arcs 4294967295 l.next l.node rest × Traces l.arcs 4294967295 l.next 0 (l.path.items ++ rest);
}

abbrev pub decreases-loop-node : goal.decreases-loop-node
decreases-loop-node l = length l.next - l.node
