-- The arcs of the places before that of this row.
use Rattle.std.proofs.Common.{◌≡◌, ℕ, length}
use Rattle.optra_graph.specs.Arcs.{Emits, IsFew}
use Rattle.optra_graph.specs.Places.{places_of}
use Rattle.optra_graph.specs.StepTables.{place_or}
use Rattle.optra_graph.proofs.emitting.add_legs.Given as goal

abbrev pub invariant-loop-row : goal.invariant-loop-row
invariant-loop-row l = record {
  emits : Emits l.net l.bid.path l.layout l.kept.flags.now (place_or l.table l.row (places_of l.layout)) l.initial.dag.arcs l.dag.arcs l.legs;
  ends : l.dag.ends ≡ l.initial.dag.ends;
  few : (row : ℕ) × (column : ℕ) × IsFew l.net.tracks l.layout (place_or l.table l.row (places_of l.layout)) row column (length l.legs);
}
