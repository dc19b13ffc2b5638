use Rattle.std.proofs.Common.{take}
use Rattle.std.specs.Ordering.{eq_by_cmp}
use Rattle.optra_node.specs.Duals.{price_of}
use Rattle.optra_prices.specs.Holdings.{Holds}
use Rattle.optra_prices.proofs.using.priced_rows.Given as goal

abbrev pub invariant-loop-entry : goal.invariant-loop-entry
invariant-loop-entry g l =
    Holds g.F.Row.Ord.cmp (g.F.RowFamily.rows_of l.rows l.net).is_row (price_of (eq_by_cmp g.F.Row.Ord.cmp) (take l.entry-index l.entries)) (λ row. 0) l.held
