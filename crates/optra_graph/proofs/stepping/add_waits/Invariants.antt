-- The waits with shorter dwells stand there.
use Rattle.std.proofs.Common.{◌+◌, ◌≤◌, length}
use Rattle.optra_graph.specs.Steps.{AreStepsBelow, bound_of}
use Rattle.optra_graph.proofs.stepping.add_waits.Given as goal

abbrev pub invariant-loop-dwell : goal.invariant-loop-dwell
invariant-loop-dwell l = record {
  few : l.dwell ≤ l.bid.path.wait_max + 1;
  count : length l.steps.items + 1 ≤ length l.initial.steps.items + l.dwell;
  below : AreStepsBelow l.net l.bid.path l.layout l.state (bound_of l.way.track.0 2 + l.dwell) l.steps.items;
}
