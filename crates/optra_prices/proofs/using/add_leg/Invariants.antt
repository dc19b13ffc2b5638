use Rattle.std.proofs.Common.{take}
use Rattle.optra_prices.specs.Holdings.{Adds, part_of}
use Rattle.optra_prices.proofs.using.add_leg.Given as goal

abbrev pub invariant-loop-k : goal.invariant-loop-k
invariant-loop-k g l =
    Adds g.F.Row.Ord.cmp (g.F.RowFamily.rows_of l.rows l.net).is_row (part_of g.F.Row.Ord.cmp ((g.F.RowFamily.rows_of l.rows l.net).uses l.kind l.leg) (take l.k (g.F.RowFamily.rows_used l.rows l.net l.kind l.leg))) l.initial.held l.held
