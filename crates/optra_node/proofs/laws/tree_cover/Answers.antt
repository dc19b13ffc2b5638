use Rattle.optra_walk.specs.Families.{entries_of}
use Rattle.optra_walk.proofs.UsableLemmas.{choice_usable}
use Rattle.optra_node.proofs.TreeLemmas.{tree_cover as law}
use Rattle.optra_node.proofs.laws.tree_cover.Goals as goal

pub returns : goal.returns
returns g c tree walks whole splits dead choice keeps =
    let net = c.args.inst.net.now in
    let bids = c.args.inst.bids.now in
    let proper = c.args.inst.proper in
    let fit = (g.met.F.RowFamily.rule_by_rows c.args.rows.now net (entries_of bids walks) proper (choice_usable net proper bids walks choice)).0 keeps in
    let t = law net (g.F.RowFamily.rows_of c.args.rows.now net) bids walks choice fit tree whole splits dead in
    (t.0, t.1, t.2.among, t.2.of)
