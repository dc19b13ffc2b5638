use Rattle.optra_walk.specs.Families.{entries_of}
use Rattle.optra_walk.proofs.UsableLemmas.{choice_usable}
use Rattle.optra_node.proofs.DualLemmas.{weak_duality as law}
use Rattle.optra_node.proofs.laws.weak_duality.Goals as goal

pub returns : goal.returns
returns g c node prices terms value walks once are dual choice of keeps =
    let net = c.args.inst.net.now in
    let bids = c.args.inst.bids.now in
    let proper = c.args.inst.proper in
    let fit = (g.met.F.RowFamily.rule_by_rows c.args.rows.now net (entries_of bids walks) proper (choice_usable net proper bids walks choice)).0 keeps in
    law net (g.F.RowFamily.rows_of c.args.rows.now net) bids node prices terms value walks are once dual choice of fit
