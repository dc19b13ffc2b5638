use Rattle.std.proofs.Common.{take, map}
use Rattle.optra_walk.specs.Families.{load_of}
use Rattle.optra_prices.specs.Holdings.{Adds}
use Rattle.optra_prices.proofs.using.add_legs.Given as goal

abbrev pub invariant-loop-number : goal.invariant-loop-number
invariant-loop-number g l =
    Adds g.F.Row.Ord.cmp (g.F.RowFamily.rows_of l.rows l.net).is_row (λ row. load_of (g.F.RowFamily.rows_of l.rows l.net) row (map (λ leg. (l.kind, leg)) (take l.number l.legs))) l.initial.held l.held
