use Rattle.std.proofs.Common.{sym, subst}
use Rattle.optra_open.specs.Loaded.{AreRising, AreLoaded}
use Rattle.optra_checker.proofs.leaf_search.best_found.Goals as goal

pub best_beside-best-requires-clause-bid : goal.best_beside-best-requires-clause-bid
best_beside-best-requires-clause-bid g c = c.requires.bid

pub best_beside-best-requires-clause-ascending : goal.best_beside-best-requires-clause-ascending
best_beside-best-requires-clause-ascending g c = c.requires.ascending

pub best_beside-best-requires-clause-proper : goal.best_beside-best-requires-clause-proper
best_beside-best-requires-clause-proper g c = c.requires.proper

pub best_beside-best-requires-clause-rising : goal.best_beside-best-requires-clause-rising
best_beside-best-requires-clause-rising g c = subst (AreRising g.F.Row.Ord.cmp) (sym c.deref.ensures.value) c.in_ok-loaded.ensures.rising

pub best_beside-best-requires-clause-all : goal.best_beside-best-requires-clause-all
best_beside-best-requires-clause-all g c =
    let node = c.args.node.now in
    subst (AreLoaded g.F.Row.Ord.cmp (g.F.RowFamily.rows_of node.family node.net) node.bids node.node) (sym c.deref.ensures.value) c.in_ok-loaded.ensures.all

pub returns-clause-best : goal.returns-clause-best
returns-clause-best g c = c.best_beside-best.ensures.best

pub returns-clause-size : goal.returns-clause-size
returns-clause-size g c = c.best_beside-best.ensures.size
