use Rattle.std.proofs.Common.{◌≡◌, ◌+◌, List, length}
use Rattle.optra_prices.specs.Terms.{setting}
use Rattle.optra_prices.specs.Following.{IsFollowing}
use Rattle.optra_prices.specs.declared.Priced.{Priced}
use Rattle.optra_prices.proofs.following.go_steps.Given as goal

abbrev pub invariant-steps : goal.invariant-steps
invariant-steps g l =
    (path : List (Priced g.row.F-Row.Denot)) × (l.k + 2 ≡ length path)
    × IsFollowing g.F.Row.Ord.cmp (setting l.inst.net.now (g.F.RowFamily.rows_of l.rows l.inst.net.now) (g.F.RowFamily.rows_used l.rows l.inst.net.now) l.inst.bids.now l.node) l.ends.start.now l.ends.steps l.incumbent l.kept l.best path
