use Rattle.std.proofs.Common.{◌≡◌, ℕ, ◌<◌, true}
use Rattle.std.specs.Prelude.{◌↔◌}
use Rattle.optra_prices.specs.Loads.{FitsOnce}
use Rattle.optra_prices.proofs.narrow_loads.NarrowLoads.fit_each.Given as goal

abbrev pub invariant-loop-number : goal.invariant-loop-number
invariant-loop-number l = (l.fit ≡ true) ↔ ((n : ℕ) → n < l.number → FitsOnce l.self n)
