use Rattle.optra_checker.specs.BestOnWay.{AreAllBest}
use Rattle.optra_checker.proofs.all_best.advance_each.Given as goal

abbrev pub invariant-bids : goal.invariant-bids
invariant-bids g l =
    AreAllBest l.node.net (g.F.RowFamily.rows_of l.node.family l.node.net) (g.F.RowFamily.rows_used l.node.family l.node.net) l.node.bids l.node.node l.walks
