use Rattle.optra_walk.specs.Families.{entries_of}
use Rattle.optra_walk.proofs.UsableLemmas.{choice_usable}
use Rattle.optra_node.proofs.TreeLemmas.{bound_above}
use Rattle.optra_node.proofs.laws.bound_holds.Goals as goal

pub returns : goal.returns
returns g c revenue bound choice tree walks whole valid is_choice keeps =
    let net = c.args.inst.net.now in
    let bids = c.args.inst.bids.now in
    let proper = c.args.inst.proper in
    let fit = (g.met.F.RowFamily.rule_by_rows c.args.rows.now net (entries_of bids walks) proper (choice_usable net proper bids walks is_choice)).0 keeps in
    bound_above net (g.F.RowFamily.rows_of c.args.rows.now net) bids walks is_choice fit tree bound whole valid.splits valid.dead valid.prices valid.bound_is
