-- One more track.
use Rattle.std.proofs.Common.{subst, sym, Option, ℤ, ◌+◌}
use Rattle.optra_rests.specs.Rests.{IsBestRest}
use Rattle.optra_rests.specs.Ways.{IsOnFirst}
use Rattle.optra_rests.proofs.TrackLemmas.{tail_in, tracks_start, tracks_push, tracks_all}
use Rattle.optra_rests.proofs.rests.state_rest.Goals as goal

pub loop-track-init : goal.loop-track-init
loop-track-init g c = record {
  best = tracks_start (g.W.Weighing.weights c.args.weighing.now) c.args.net.now c.args.bid.now c.args.state c.out_tracks-track-items.result.now;
  asks = c.requires.asks;
}

pub loop-track-preserved : goal.loop-track-preserved
loop-track-preserved g c =
    let w = g.W.Weighing.weights c.args.weighing.now in
    record {
      best = subst (λ (o : Option ℤ). IsBestRest w c.args.net.now c.args.bid.now c.args.state (IsOnFirst c.out_tracks-track-items.result.now (c.loop-track.track-index + 1)) o) (sym c.greater-best.ensures)
          (tracks_push w c.args.net.now c.args.bid.now c.args.state c.out_tracks-track-items.result.now c.loop-track.track-index c.loop-track.best c.track_rest-rest.result c.loop-track-test.true
          c.loop-track.invariant.best c.track_rest-rest.ensures.best);
      asks = c.track_rest-rest.ensures.asks;
    }

pub track_rest-rest-requires-clause-tail : goal.track_rest-rest-requires-clause-tail
track_rest-rest-requires-clause-tail g c = tail_in c.args.net.now c.args.state c.out_tracks-track-items.result.now c.out_tracks-track-items.ensures.tracks c.loop-track.track-index c.loop-track-test.true

pub returns-clause-best : goal.returns-clause-best
returns-clause-best g c = tracks_all (g.W.Weighing.weights c.args.weighing.now) c.args.net.now c.args.bid.now c.args.state c.out_tracks-track-items.result.now c.loop-track.track-index c.loop-track.best
    c.out_tracks-track-items.ensures.tracks c.loop-track-test.false c.loop-track.invariant.best

pub track_rest-rest-requires-clause-asks : goal.track_rest-rest-requires-clause-asks
track_rest-rest-requires-clause-asks g c = c.loop-track.invariant.asks

pub track_rest-rest-requires-clause-weights : goal.track_rest-rest-requires-clause-weights
track_rest-rest-requires-clause-weights g c = c.requires.weights

pub track_rest-rest-requires-clause-ready : goal.track_rest-rest-requires-clause-ready
track_rest-rest-requires-clause-ready g c = c.requires.ready

pub returns-clause-asks : goal.returns-clause-asks
returns-clause-asks g c = c.loop-track.invariant.asks
