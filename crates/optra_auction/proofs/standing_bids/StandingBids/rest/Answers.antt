-- One more bid is at rest.
use Rattle.std.proofs.Common.{◌<◌, ◌∙◌, length, arith}
use Rattle.optra_auction.proofs.MachineLemmas.{rested-more}
use Rattle.optra_auction.proofs.standing_bids.StandingBids.rest.Goals as goal

pub loop-place-preserved : goal.loop-place-preserved
loop-place-preserved c =
    let within : c.loop-place.place < length c.args.self.now = omega (arith, c.len-place-end.ensures.len, c.loop-place-test.true) in
    c.rest_at.ensures ∙ rested-more c.args.self.now c.loop-place.self c.loop-place.place within c.loop-place.invariant
