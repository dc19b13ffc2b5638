use Rattle.std.proofs.Common.{◌≡◌, ◌++◌, take, drop, map}
use Rattle.optra_auction.specs.Machine.{rested}
use Rattle.optra_auction.proofs.standing_bids.StandingBids.rest.Given as goal

abbrev pub invariant-loop-place : goal.invariant-loop-place
invariant-loop-place l = l.self ≡ map rested (take l.place l.fn.self) ++ drop l.place l.fn.self
