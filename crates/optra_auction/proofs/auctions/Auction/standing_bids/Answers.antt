-- One more planned bid, and what all of them keep.
use Rattle.std.proofs.Common.{◌<◌, ◌≤◌, ◌∙◌, map, length, ap, sym, subst, arith}
use Rattle.std.proofs.lemmas.List.{take_all}
use Rattle.optra_network.specs.Names.{AllDiffer}
use Rattle.optra_auction.specs.Machine.{State, planned_of, standing_names}
use Rattle.optra_auction.proofs.AuctionLemmas.{planned-more, planned-names, planned-paths}
use Rattle.optra_auction.proofs.auctions.Auction.standing_bids.Goals as goal

pub loop-place-preserved : goal.loop-place-preserved
loop-place-preserved c =
    let count = ap (λ (s : State). length s.standing) c.self.view_is in
    let within : c.loop-place.place < length c.args.self.now.standing = omega (arith, count, c.len-count.ensures.len, c.loop-place-test.true) in
    planned-more c.args.self.now.specs c.args.self.now.standing c.loop-place.bids.items c.push.new.self.items c.loop-place.place c.in_ok-bid.bid c.loop-place.invariant within c.in_ok-bid.ensures c.in_ok-push.ensures.items

pub returns-clause-differ : goal.returns-clause-differ
returns-clause-differ c =
    let count = ap (λ (s : State). length s.standing) c.self.view_is in
    let all : length c.args.self.now.standing ≤ c.loop-place.place = omega (arith, count, c.len-count.ensures.len, c.loop-place-test.false) in
    let plans = c.loop-place.invariant ∙ ap (map (planned_of c.args.self.now.specs)) (take_all c.loop-place.place c.args.self.now.standing all) in
    let names = planned-names c.args.self.now.specs c.args.self.now.standing c.loop-place.bids.items plans ∙ sym (ap (λ (s : State). standing_names s.standing) c.self.view_is) in
    subst AllDiffer (sym names) c.self.invariant.names.differ

pub returns-clause-paths : goal.returns-clause-paths
returns-clause-paths c =
    let count = ap (λ (s : State). length s.standing) c.self.view_is in
    let all : length c.args.self.now.standing ≤ c.loop-place.place = omega (arith, count, c.len-count.ensures.len, c.loop-place-test.false) in
    let plans = c.loop-place.invariant ∙ ap (map (planned_of c.args.self.now.specs)) (take_all c.loop-place.place c.args.self.now.standing all) in
    planned-paths c.args.self.now.specs c.args.self.now.standing c.loop-place.bids.items plans
