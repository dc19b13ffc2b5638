-- One more bid has its value.
use Rattle.std.proofs.Common.{◌∙◌, ap, sym, take, length, arith, None, List, get_or, ◌<◌}
use Rattle.std.proofs.lemmas.Option.{slice_get-get_or}
use Rattle.optra_auction.specs.Machine.{Standing, valued, with_change}
use Rattle.optra_auction.proofs.MachineLemmas.{length-with_values, with_values-more, with_values-none}
use Rattle.optra_auction.proofs.standing_bids.StandingBids.set_values.Goals as goal

pub loop-place-init : goal.loop-place-init
loop-place-init c = sym (with_values-none c.args.self.now)

pub set_value-requires : goal.set_value-requires
set_value-requires c =
    let same = ap length c.loop-place.invariant ∙ length-with_values c.args.self.now (take c.loop-place.place c.args.values.now) in
    omega (arith, same, c.requires, c.loop-place-test.true)

pub loop-place-preserved : goal.loop-place-preserved
loop-place-preserved c =
    let place = c.loop-place.place in
    let value = get_or c.args.values.now place None in
    let within : place < length c.args.self.now = omega (arith, c.requires, c.loop-place-test.true) in
    c.set_value.ensures
    ∙ ap (λ (l : List Standing). with_change l place (valued value)) c.loop-place.invariant
    ∙ with_values-more c.args.self.now c.args.values.now place value within (slice_get-get_or c.args.values.now place None c.loop-place-test.true)
