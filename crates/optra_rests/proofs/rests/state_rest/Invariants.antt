-- The best of the rests on the tracks so far.
use Rattle.optra_rests.specs.Asks.{AreAsked}
use Rattle.optra_rests.specs.Rests.{IsBestRest}
use Rattle.optra_rests.specs.Ways.{IsOnFirst}
use Rattle.optra_rests.proofs.rests.state_rest.Given as goal

abbrev pub invariant-loop-track : goal.invariant-loop-track
invariant-loop-track g l = record {
  best : IsBestRest (g.W.Weighing.weights l.weighing) l.net l.bid l.state (IsOnFirst l.track-items l.track-index) l.best;
  asks : AreAsked (g.W.Weighing.weights l.weighing) l.asks;
}
