use Rattle.std.proofs.Common.{◌≡◌, ℕ, map, take}
use Rattle.optra_prices.specs.Levels.{price_of}
use Rattle.optra_prices.proofs.levels.copy_prices.Given as goal

abbrev pub invariant-loop-k : goal.invariant-loop-k
invariant-loop-k l = l.moves.items ≡ map (λ (n : ℕ). (n, price_of l.levels n)) (take l.k l.levels.active.items)
