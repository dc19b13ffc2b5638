use Rattle.std.proofs.Common.{◌∙◌, ap, sym, subst, map, List, Some, All}
use Rattle.optra_bid.specs.declared.bids.Bid.{Bid}
use Rattle.optra_auction.specs.Machine.{Offer, offer_of}
use Rattle.optra_auction.proofs.AuctionLemmas.{paths_hold}
use Rattle.optra_house.proofs.PostLemmas.{planned_offers, was_asked}
use Rattle.optra_house.proofs.closing.values_of.Goals as goal

pub values-requires-clause-paths : goal.values-requires-clause-paths
values-requires-clause-paths g c =
    subst (All (λ (bid : Bid). g.P.Rounds.takes c.args.planner.now bid.path)) (sym c.deref.ensures.value)
    (paths_hold (g.P.Rounds.takes c.args.planner.now) c.args.auction.now.specs c.in_ok-bids.bids.items c.in_ok-bids.ensures.paths c.requires)

pub returns-clause-values : goal.returns-clause-values
returns-clause-values g c =
    let here = c.in_ok-bids.bids.items in
    let offers = ap (λ (bids : List Bid). map offer_of bids) c.deref.ensures.value ∙ planned_offers c.args.auction.now.specs c.args.auction.now.standing here c.in_ok-bids.ensures.bids in
    subst (λ (os : List Offer). g.P.Rounds.Means c.args.planner.now os c.in_ok-values.values.items) offers c.in_ok-values.ensures.values

pub returns-clause-asked : goal.returns-clause-asked
returns-clause-asked g c =
    was_asked (g.P.Rounds.After c.args.planner.now) c.args.auction.now _ c.in_ok-bids.bids.items c.in_ok-bids.ensures.bids
    (subst (λ (bids : List Bid). g.P.Rounds.After c.args.planner.now (map offer_of bids) c.values.new.self) c.deref.ensures.value c.in_ok-values.ensures.after)
