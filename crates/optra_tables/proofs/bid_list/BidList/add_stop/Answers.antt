-- The bid at the place has the stop, and its name.
use Rattle.std.proofs.Common.{map, refl}
use Rattle.optra_bid.specs.Bids.{stop_of}
use Rattle.optra_bid.specs.Offers.{offer_of}
use Rattle.optra_tables.proofs.BidLemmas.{bid_there, names_stay, place_inside, stop_set}
use Rattle.optra_tables.proofs.bid_list.BidList.add_stop.Goals as goal

pub invariant_of-self : goal.invariant_of-self
invariant_of-self c =
    let within = place_inside c.self.inside.bids.items c.args.self.now c.args.place c.self.view_is c.requires in
    let there = bid_there c.self.inside.bids.items (map offer_of c.self.inside.bids.items) c.args.place c.index_mut-bid.result.now refl within c.index_mut-bid.ensures.value in
    names_stay _ c.self.inside.bids.items c.args.place c.index_mut-bid.result.now c.add_stop.new.self c.self.invariant there c.add_stop.ensures.others.0

pub returns-clause-rule : goal.returns-clause-rule
returns-clause-rule c =
    let within = place_inside c.self.inside.bids.items c.args.self.now c.args.place c.self.view_is c.requires in
    let there = bid_there c.self.inside.bids.items c.args.self.now c.args.place c.index_mut-bid.result.now c.self.view_is within c.index_mut-bid.ensures.value in
    rw there c.add_stop.ensures.rule

pub returns-clause-ok : goal.returns-clause-ok
returns-clause-ok c =
    let within = place_inside c.self.inside.bids.items c.args.self.now c.args.place c.self.view_is c.requires in
    let there = bid_there c.self.inside.bids.items c.args.self.now c.args.place c.index_mut-bid.result.now c.self.view_is within c.index_mut-bid.ensures.value in
    stop_set c.self.inside.bids.items c.args.self.now c.args.place c.index_mut-bid.result.now c.add_stop.new.self (stop_of c.args.raw.now) c.add_stop.result c.self.view_is there
    c.add_stop.ensures.ok c.add_stop.ensures.others.0 c.add_stop.ensures.others.1 c.add_stop.ensures.others.2
