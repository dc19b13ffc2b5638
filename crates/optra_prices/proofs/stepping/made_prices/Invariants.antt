use Rattle.std.proofs.Common.{◌≡◌, ◌++◌, true}
use Rattle.std.specs.Prelude.{All}
use Rattle.optra_prices.specs.Holdings.{stepped, next_held}
use Rattle.optra_prices.proofs.stepping.made_prices.Given as goal

abbrev pub invariant-loop-row : goal.invariant-loop-row
invariant-loop-row g l = record {
  so_far : l.out.items ++ stepped (next_held (g.F.RowFamily.rows_of l.rows l.net) l.length) l.row-iterator ≡ stepped (next_held (g.F.RowFamily.rows_of l.rows l.net) l.length) l.held.entries;
  rows : All (λ e. (g.F.RowFamily.rows_of l.rows l.net).is_row e.0 ≡ true) l.row-iterator;
}
