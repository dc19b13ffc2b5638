use Rattle.std.proofs.Common.{◌≡◌, take}
use Rattle.optra_prices.specs.Uses.{AddsUses, touch_uses}
use Rattle.optra_prices.proofs.rooms.add_touches.Given as goal

abbrev pub invariant-loop-k : goal.invariant-loop-k
invariant-loop-k l = record {
  uses : AddsUses (touch_uses (take l.k l.touches)) l.fn.room.loads.uses l.room.loads.uses;
  capacities : l.room.loads.capacities ≡ l.fn.room.loads.capacities;
}
