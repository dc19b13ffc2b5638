use Rattle.std.proofs.Common.{IfSome}
use Rattle.optra_checker.specs.Leaves.{AreTerms, IsSumSize}
use Rattle.optra_evidence.proofs.leaf_worths.term_sum.Given as goal

abbrev pub invariant-bids : goal.invariant-bids
invariant-bids g l = record {
  terms : AreTerms l.node.net (g.F.RowFamily.rows_of l.node.family l.node.net) l.node.bids l.node.node l.prices l.bid l.sum;
  size : IfSome l.sum (IsSumSize l.bid);
}
