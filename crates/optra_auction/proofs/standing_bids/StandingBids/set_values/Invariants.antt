use Rattle.std.proofs.Common.{◌≡◌, take}
use Rattle.optra_auction.specs.Machine.{with_values}
use Rattle.optra_auction.proofs.standing_bids.StandingBids.set_values.Given as goal

abbrev pub invariant-loop-place : goal.invariant-loop-place
invariant-loop-place l = l.self ≡ with_values l.fn.self (take l.place l.values)
