use Rattle.std.proofs.Common.{◌≡◌, ℕ, take}
use Rattle.optra_prices.specs.Uses.{rows_use, spans_use}
use Rattle.optra_prices.proofs.path_rows.list_rows.Given as goal

abbrev pub invariant-loop-span : goal.invariant-loop-span
invariant-loop-span l = (n : ℕ) → rows_use l.rows.items n ≡ spans_use l.groups.touches (take l.span-index l.spans) n
