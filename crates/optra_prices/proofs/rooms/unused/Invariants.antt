use Rattle.std.proofs.Common.{◌≡◌, map, replicate, take}
use Rattle.optra_prices.proofs.rooms.unused.Given as goal

abbrev pub invariant-loop-number : goal.invariant-loop-number
invariant-loop-number g l = record {
  uses : l.loads.uses ≡ replicate l.number 0;
  capacities : l.loads.capacities ≡ map (g.F.RowFamily.rows_of l.rows l.net).capacity (take l.number l.numbered.items);
}
