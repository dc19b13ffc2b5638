use Rattle.std.proofs.Common.{ℕ, ◌≤◌, ◌<◌, get_or}
use Rattle.std.specs.Prelude.{unsigned_abs, pos}
use Rattle.optra_prices.proofs.tables.most_cents.Given as goal

abbrev pub invariant-loop-k : goal.invariant-loop-k
invariant-loop-k l = (j : ℕ) → j < l.k → unsigned_abs (get_or l.arcs j (record { mark = 0; cents = pos 0 })).cents ≤ l.most
