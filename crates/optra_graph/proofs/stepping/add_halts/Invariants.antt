-- The halts with shorter dwells stand there.
use Rattle.std.proofs.Common.{◌+◌, ◌≤◌, length}
use Rattle.optra_graph.specs.Steps.{AreStepsBelow, bound_of}
use Rattle.optra_graph.proofs.stepping.add_halts.Given as goal

abbrev pub invariant-loop-dwell : goal.invariant-loop-dwell
invariant-loop-dwell l = record {
  few : l.dwell ≤ 241;
  spread : l.dwell ≤ l.initial.dwell + 31;
  count : length l.steps.items + l.initial.dwell ≤ length l.initial.steps.items + l.dwell;
  below : AreStepsBelow l.net l.bid.path l.layout l.state (bound_of l.way.track.0 1 + l.dwell) l.steps.items;
}
