-- The copies of the bids so far.
use Rattle.std.proofs.Common.{◌≡◌, take}
use Rattle.optra_play.proofs.round_planner.copied.Given as goal

abbrev pub invariant-bids : goal.invariant-bids
invariant-bids l = l.copies.items ≡ take l.bid-index l.bids
