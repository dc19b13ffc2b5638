-- What the search over the marked arcs finds is the freest walk.
use Rattle.optra_search.proofs.MarkLemmas.{finds_freest}
use Rattle.optra_search.proofs.freeing.freest.Goals as goal

pub returns : goal.returns
returns g c =
    let net = c.args.inst.net.now in
    finds_freest net c.args.inst.proper (g.F.RowFamily.rows_of c.args.rows.now net) c.args.inst.bids.now c.args.bid c.args.graph.now c.requires.graph c.args.node.now
    c.tests_tell_allowed.ensures c.in_ok-marks.marks.items c.in_ok-marks.ensures c.in_ok-walk.walk (rw c.deref.ensures.value at c.in_ok-walk.ensures)
