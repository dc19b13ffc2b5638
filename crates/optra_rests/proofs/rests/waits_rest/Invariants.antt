-- The best of the waits with shorter dwells.
use Rattle.optra_rests.specs.Asks.{AreAsked}
use Rattle.optra_rests.specs.Rests.{IsBestRest}
use Rattle.optra_rests.specs.Ways.{IsWaitBelow}
use Rattle.optra_rests.proofs.rests.waits_rest.Given as goal

abbrev pub invariant-loop-dwell : goal.invariant-loop-dwell
invariant-loop-dwell g l = record {
  best : IsBestRest (g.W.Weighing.weights l.weighing) l.net l.bid l.way.from (IsWaitBelow l.way.from l.way.track l.dwell) l.best;
  asks : AreAsked (g.W.Weighing.weights l.weighing) l.asks;
}
