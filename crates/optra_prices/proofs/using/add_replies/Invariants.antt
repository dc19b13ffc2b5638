use Rattle.std.proofs.Common.{take}
use Rattle.optra_walk.specs.Families.{load_of, entries_of}
use Rattle.optra_prices.specs.Holdings.{Adds}
use Rattle.optra_prices.proofs.using.add_replies.Given as goal

abbrev pub invariant-loop-number : goal.invariant-loop-number
invariant-loop-number g l =
    Adds g.F.Row.Ord.cmp (g.F.RowFamily.rows_of l.rows l.inst.net.now).is_row (λ row. load_of (g.F.RowFamily.rows_of l.rows l.inst.net.now) row (entries_of (take l.number l.inst.bids.now) (take l.number l.replies))) l.initial.held l.held
