use Rattle.std.proofs.Common.{◌≡◌, take}
use Rattle.optra_prices.specs.Claims.{claim_uses}
use Rattle.optra_prices.specs.Uses.{TakesUses}
use Rattle.optra_prices.proofs.claims.take_claims.Given as goal

abbrev pub invariant-loop-claim : goal.invariant-loop-claim
invariant-loop-claim l = record {
  uses : TakesUses (claim_uses (take l.claim-index l.claims)) l.fn.room.loads.uses l.room.loads.uses;
  capacities : l.room.loads.capacities ≡ l.fn.room.loads.capacities;
}
