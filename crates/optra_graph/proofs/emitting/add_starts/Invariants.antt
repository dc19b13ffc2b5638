-- The start arcs of the minutes so far.
use Rattle.std.proofs.Common.{◌≡◌, ◌+◌, ◌≤◌, length}
use Rattle.optra_graph.specs.Arcs.{Starts}
use Rattle.optra_graph.proofs.emitting.add_starts.Given as goal

abbrev pub invariant-loop-minute : goal.invariant-loop-minute
invariant-loop-minute l = record {
  starts : Starts l.bid.path l.layout l.kept.flags.now l.minute l.dag.arcs l.minutes.items;
  ends : l.dag.ends ≡ l.initial.dag.ends;
  few : length l.minutes.items + l.layout.first ≤ l.minute;
  end : l.minute ≤ l.layout.first + l.layout.minutes;
}
