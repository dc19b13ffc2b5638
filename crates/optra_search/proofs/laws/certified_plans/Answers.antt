use Rattle.optra_search.proofs.WorthLemmas.{certified_plan}
use Rattle.optra_search.proofs.laws.certified_plans.Goals as goal

pub returns : goal.returns
returns g c =
    let net = c.args.inst.net.now in
    let laws = c.plan_laws.ensures in
    certified_plan g.F.Row.Ord.cmp net (g.F.RowFamily.rows_of c.args.rows.now net) (g.F.RowFamily.KeepsRule c.args.rows.now net) c.args.inst.bids.now c.bound_holds.ensures
    laws.one_plan laws.certified laws.numbers laws.sufficient laws.worth
