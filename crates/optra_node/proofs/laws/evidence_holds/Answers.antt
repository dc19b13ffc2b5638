use Rattle.optra_walk.specs.Families.{entries_of}
use Rattle.optra_walk.proofs.UsableLemmas.{choice_usable}
use Rattle.optra_node.proofs.EvidenceLemmas.{with_holds, without_holds}
use Rattle.optra_node.proofs.laws.evidence_holds.Goals as goal

pub returns-clause-with : goal.returns-clause-with
returns-clause-with g c tree prices_at number bid most walks legs cover are at is choice keeps w =
    let net = c.args.inst.net.now in
    let bids = c.args.inst.bids.now in
    let proper = c.args.inst.proper in
    let fit = (g.met.F.RowFamily.rule_by_rows c.args.rows.now net (entries_of bids walks) proper (choice_usable net proper bids walks choice)).0 keeps in
    with_holds net (g.F.RowFamily.rows_of c.args.rows.now net) bids walks choice fit tree prices_at cover are number bid at most legs is w

pub returns-clause-without : goal.returns-clause-without
returns-clause-without g c tree prices_at number bid most walks cover are at is choice keeps w =
    let net = c.args.inst.net.now in
    let bids = c.args.inst.bids.now in
    let proper = c.args.inst.proper in
    let fit = (g.met.F.RowFamily.rule_by_rows c.args.rows.now net (entries_of bids walks) proper (choice_usable net proper bids walks choice)).0 keeps in
    without_holds net (g.F.RowFamily.rows_of c.args.rows.now net) bids walks choice fit tree prices_at cover are number bid at most is w
