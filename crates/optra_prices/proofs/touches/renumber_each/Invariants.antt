use Rattle.std.proofs.Common.{◌≡◌, ◌++◌, map, take, drop}
use Rattle.optra_prices.specs.Rankings.{renumbered}
use Rattle.optra_prices.proofs.touches.renumber_each.Given as goal

abbrev pub invariant-loop-k : goal.invariant-loop-k
invariant-loop-k l = l.touches ≡ map (renumbered l.numbers) (take l.k l.initial.touches) ++ drop l.k l.initial.touches
