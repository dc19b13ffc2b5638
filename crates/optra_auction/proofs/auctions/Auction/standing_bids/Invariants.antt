use Rattle.std.proofs.Common.{◌≡◌, Some, map, take}
use Rattle.optra_bid.specs.declared.bids.Bid.{Bid}
use Rattle.optra_bid.specs.Offers.{offer_of}
use Rattle.optra_auction.specs.Machine.{planned_of}
use Rattle.optra_auction.proofs.auctions.Auction.standing_bids.Given as goal

abbrev pub invariant-loop-place : goal.invariant-loop-place
invariant-loop-place l = map (λ (bid : Bid). Some (offer_of bid)) l.bids.items ≡ map (planned_of l.self.specs) (take l.place l.self.standing)
