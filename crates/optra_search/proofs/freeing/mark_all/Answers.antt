-- Each arc is marked after those before it.
use Rattle.optra_search.proofs.MarkLemmas.{one_mark}
use Rattle.optra_search.proofs.freeing.mark_all.Goals as goal

pub loop-arc-preserved : goal.loop-arc-preserved
loop-arc-preserved g c =
    let net = c.args.inst.net.now in
    rw c.in_ok-push.ensures.items
    (one_mark net (g.F.RowFamily.rows_of c.args.rows.now net) c.args.inst.bids.now c.args.node.now c.args.bid c.args.graph.now c.loop-arc.arc c.loop-arc.marks.items c.mark.result c.loop-arc.invariant c.mark.ensures)
