-- The numbers of the kept places before that of this row, and the next number.
use Rattle.std.proofs.Common.{◌≡◌, ◌-◌, ◌≤◌, length}
use Rattle.std.specs.Prelude.{slice_index_or}
use Rattle.optra_graph.specs.Nodes.{node_of}
use Rattle.optra_graph.proofs.NumberLemmas.{AreBefore}
use Rattle.optra_graph.proofs.numbering.fill.Given as goal

abbrev pub invariant-loop-row : goal.invariant-loop-row
invariant-loop-row l = record {
  len : length l.flags ≤ length l.numbers;
  next : l.next ≡ node_of l.flags (slice_index_or l.places l.row (length l.flags - 1));
  each : AreBefore l.flags (slice_index_or l.places l.row (length l.flags - 1)) l.numbers;
}
