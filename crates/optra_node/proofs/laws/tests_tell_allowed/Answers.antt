use Rattle.optra_node.proofs.SpanLemmas.{tests_pass, passes_allowed}
use Rattle.optra_node.proofs.laws.tests_tell_allowed.Goals as goal

pub returns : goal.returns
returns g c node number bid legs walk =
    let net = c.args.inst.net.now in
    let rows = g.F.RowFamily.rows_of c.args.rows.now net in
    let proper = c.args.inst.proper in
    (tests_pass net proper rows c.args.inst.bids.now node number bid legs walk, passes_allowed net proper rows c.args.inst.bids.now node number bid legs walk)
