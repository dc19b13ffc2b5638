use Rattle.optra_checker.proofs.BestWalkLemmas.{AreLeft}
use Rattle.optra_checker.proofs.all_best.turn_back_all.Given as goal

abbrev pub invariant-bids : goal.invariant-bids
invariant-bids g l =
    AreLeft l.node.net (g.F.RowFamily.rows_of l.node.family l.node.net) (g.F.RowFamily.rows_used l.node.family l.node.net) l.node.bids l.node.node l.depth l.bid l.walks
