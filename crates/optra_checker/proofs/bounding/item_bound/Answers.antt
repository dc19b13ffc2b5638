use Rattle.std.proofs.Common.{length, sym, subst}
use Rattle.optra_node.specs.Duals.{ArePrices}
use Rattle.optra_node.specs.Certificates.{AreAscending, IsFormedItem, HasPrices}
use Rattle.optra_checker.proofs.bounding.item_bound.Goals as goal

pub leaf_bound-requires-clause-walks : goal.leaf_bound-requires-clause-walks
leaf_bound-requires-clause-walks g c = c.requires.walks

pub advance_all-requires : goal.advance_all-requires
advance_all-requires g c = c.requires.walks

pub leaf_bound-requires-clause-instance : goal.leaf_bound-requires-clause-instance
leaf_bound-requires-clause-instance g c = c.requires.instance

pub leaf_bound-requires-clause-ascending : goal.leaf_bound-requires-clause-ascending
leaf_bound-requires-clause-ascending g c =
    let node = c.args.node.now in
    let cmp = g.F.Row.Ord.cmp in
    subst (AreAscending cmp) (sym c.entries.ensures) (subst (IsFormedItem cmp node.net (length node.bids)) c.in-Priced.is c.requires.formed)

pub leaf_bound-requires-clause-proper : goal.leaf_bound-requires-clause-proper
leaf_bound-requires-clause-proper g c =
    let node = c.args.node.now in
    let rows = g.F.RowFamily.rows_of node.family node.net in
    subst (ArePrices rows) (sym c.entries.ensures) (subst (HasPrices rows) c.in-Priced.is c.requires.prices)
