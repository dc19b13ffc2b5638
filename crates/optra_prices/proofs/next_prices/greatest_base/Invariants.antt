use Rattle.std.proofs.Common.{◌≡◌, take, pos}
use Rattle.optra_bid.specs.Specs.{IsBetween}
use Rattle.optra_prices.specs.Steps.{greatest_base}
use Rattle.optra_prices.proofs.next_prices.greatest_base.Given as goal

abbrev pub invariant-loop-bid : goal.invariant-loop-bid
invariant-loop-bid l = (l.most ≡ greatest_base (take l.bid-index l.bids)) × IsBetween (pos 0) (pos 1000000000) l.most
