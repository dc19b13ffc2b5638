use Rattle.std.proofs.Common.{List, sym, subst}
use Rattle.optra_node.specs.declared.Decision.{Decision}
use Rattle.optra_open.specs.Opens.{IsOpen}
use Rattle.optra_open.proofs.OpenLemmas.{open_root}
use Rattle.optra_open.proofs.node_room.root_room.Goals as goal

pub returns-clause-room : goal.returns-clause-room
returns-clause-room g c =
    let cmp = g.F.Row.Ord.cmp in
    let net = c.args.inst.net.now in
    let bids = c.args.inst.bids.now in
    let rows = g.F.RowFamily.rows_of c.args.rows.now net in
    subst (λ (node : List Decision). IsOpen cmp net rows bids node c.new-3.result.sums c.in_ok-index.index) (sym c.new-2.ensures.items)
    (open_root cmp net rows bids c.new-3.result.sums c.in_ok-index.index c.new-3.ensures c.in_ok-index.ensures)
