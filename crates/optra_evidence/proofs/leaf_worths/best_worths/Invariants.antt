-- One for each of the bids so far.
use Rattle.std.specs.Prelude.{IfSome}
use Rattle.optra_checker.specs.BestOnWay.{AreAllBest, IsBestAt}
use Rattle.optra_open.proofs.EachLemmas.{AreEach}
use Rattle.optra_rests.specs.Weights.{IsWorthSize}
use Rattle.optra_evidence.proofs.leaf_worths.best_worths.Given as goal

abbrev pub invariant-bids : goal.invariant-bids
invariant-bids g l = record {
  walks : AreAllBest l.node.net (g.F.RowFamily.rows_of l.node.family l.node.net) (g.F.RowFamily.rows_used l.node.family l.node.net) l.node.bids l.node.node l.walks;
  worths : AreEach (λ number worth. IsBestAt g.F.RowFamily.rows_of g.F.RowFamily.rows_used l.node number l.prices worth × IfSome worth IsWorthSize) l.bid l.worths.items;
}
