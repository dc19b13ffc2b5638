-- The arcs so far are marked.
use Rattle.optra_search.specs.Marks.{AreMarked}
use Rattle.optra_search.proofs.freeing.mark_all.Given as goal

abbrev pub invariant-loop-arc : goal.invariant-loop-arc
invariant-loop-arc g l =
    AreMarked l.inst.net.now (g.F.RowFamily.rows_of l.rows l.inst.net.now) l.inst.bids.now l.node l.bid l.graph l.arc l.marks.items
