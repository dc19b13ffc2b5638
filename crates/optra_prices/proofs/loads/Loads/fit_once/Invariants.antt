use Rattle.std.proofs.Common.{ℕ, ◌<◌, get_or}
use Rattle.optra_prices.specs.Loads.{FitsOnce}
use Rattle.optra_prices.proofs.loads.Loads.fit_once.Given as goal

abbrev pub invariant-loop-k : goal.invariant-loop-k
invariant-loop-k l = (i d : ℕ) → i < l.k → FitsOnce l.self (get_or l.rows i d)
