use Rattle.std.proofs.Common.{◌≡◌, ℕ}
use Rattle.optra_prices.specs.Columns.{IsColumns}
use Rattle.optra_prices.proofs.ColumnLemmas.{IsTold}
use Rattle.optra_prices.proofs.columns.reprice.Given as goal

abbrev pub invariant-loop-k : goal.invariant-loop-k
invariant-loop-k l = record {
  columns : IsColumns l.fn.columns.groups l.columns;
  running : l.columns.running ≡ l.fn.columns.running;
  due : l.columns.due ≡ l.fn.columns.due;
  each : (g : ℕ) → IsTold l.prices.items l.fn.columns l.k l.columns g;
}
