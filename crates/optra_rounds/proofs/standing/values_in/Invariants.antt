-- The values so far, and those of the bids that are left.
use Rattle.std.proofs.Common.{◌≡◌, ◌++◌, drop}
use Rattle.optra_rounds.specs.Rounds.{values_of}
use Rattle.optra_rounds.proofs.standing.values_in.Given as goal

abbrev pub invariant-bids : goal.invariant-bids
invariant-bids l = l.values.items ++ values_of l.net (drop l.i l.bids) (drop l.i l.walks) ≡ values_of l.net l.bids l.walks
