use Rattle.std.proofs.Common.{◌≡◌, take}
use Rattle.optra_prices.proofs.loads.widen.Given as goal

abbrev pub invariant-loop-number : goal.invariant-loop-number
invariant-loop-number l = record {
  uses : l.wide.uses ≡ take l.number l.narrow.uses;
  capacities : l.wide.capacities ≡ take l.number l.narrow.capacities;
}
