-- One more name.
use Rattle.std.proofs.Common.{◌<◌, ◌∙◌, length, ap, arith}
use Rattle.std.proofs.lemmas.List.{length-map}
use Rattle.optra_bid.specs.declared.bids.Bid.{Bid}
use Rattle.optra_rounds.proofs.SpecLemmas.{next-spec, spec-within}
use Rattle.optra_rounds.proofs.standing.standing_specs.Goals as goal

pub bids-preserved : goal.bids-preserved
bids-preserved c =
    let long = ap length c.requires ∙ length-map c.args.auction.now.specs (λ (spec : Bid). spec.name) in
    let on = spec-within c.args.auction.now c.count-count.ensures.auction c.bids.bid c.spec_of-spec.result c.spec_of-spec.ensures in
    let within : c.spec_of-spec.result < length c.args.names.now = omega (arith, long, on) in
    next-spec c.args.names.now c.args.auction.now.standing c.bids.bid c.spec_of-spec.result c.index-names-spec.result c.in_ok-name.name c.bids.specs.items c.push.new.self.items
    c.spec_of-spec.ensures within c.index-names-spec.is c.in_ok-name.ensures c.in_ok-push.ensures.items c.bids.invariant
