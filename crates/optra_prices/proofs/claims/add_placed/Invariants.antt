use Rattle.std.proofs.Common.{◌≡◌, take}
use Rattle.optra_prices.specs.Claims.{placed_uses}
use Rattle.optra_prices.specs.Uses.{AddsUses}
use Rattle.optra_prices.proofs.claims.add_placed.Given as goal

abbrev pub invariant-loop-place : goal.invariant-loop-place
invariant-loop-place l = record {
  uses : AddsUses (placed_uses l.claims (take l.place-index l.places)) l.fn.room.loads.uses l.room.loads.uses;
  capacities : l.room.loads.capacities ≡ l.fn.room.loads.capacities;
}
