use Rattle.std.proofs.Common.{◌≡◌, take}
use Rattle.optra_prices.specs.Uses.{TakesUses, path_uses}
use Rattle.optra_prices.proofs.putting.take_arcs.Given as goal

abbrev pub invariant-loop-k : goal.invariant-loop-k
invariant-loop-k l = record {
  uses : TakesUses (path_uses l.groups l.table (take l.k-index l.path)) l.fn.room.loads.uses l.room.loads.uses;
  capacities : l.room.loads.capacities ≡ l.fn.room.loads.capacities;
}
