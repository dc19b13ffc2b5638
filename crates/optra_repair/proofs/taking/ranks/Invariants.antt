-- The bids so far have their ranks.
use Rattle.optra_repair.specs.Takings.{AreRanks}
use Rattle.optra_repair.proofs.taking.ranks.Given as goal

abbrev pub invariant-loop-number : goal.invariant-loop-number
invariant-loop-number l = AreRanks l.dual l.number l.ranks.items
