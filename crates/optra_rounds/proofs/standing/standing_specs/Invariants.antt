-- The names of the bids so far.
use Rattle.std.proofs.Common.{◌≡◌, take}
use Rattle.optra_rounds.specs.Rounds.{standing_specs}
use Rattle.optra_rounds.proofs.standing.standing_specs.Given as goal

abbrev pub invariant-bids : goal.invariant-bids
invariant-bids l = l.specs.items ≡ standing_specs l.names (take l.bid l.auction.standing)
