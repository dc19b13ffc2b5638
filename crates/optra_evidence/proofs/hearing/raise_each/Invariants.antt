use Rattle.optra_evidence.proofs.HeardLemmas.{AreHeardTo}
use Rattle.optra_evidence.proofs.hearing.raise_each.Given as goal

abbrev pub invariant-bids : goal.invariant-bids
invariant-bids g l = AreHeardTo l.node.net (g.F.RowFamily.rows_of l.node.family l.node.net) l.node.bids l.node.node l.prices l.fn.figures l.bid l.figures
