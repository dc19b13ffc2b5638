-- The plan is one by definition, so its walks are worth something.
use Rattle.optra_search.proofs.WorthLemmas.{plan_worth}
use Rattle.optra_search.proofs.planning.plan.Goals as goal

pub returns-clause-worth : goal.returns-clause-worth
returns-clause-worth g c =
    let net = c.args.inst.net.now in
    plan_worth g.F.Row.Ord.cmp net (g.F.RowFamily.rows_of c.args.rows.now net) c.args.inst.bids.now _ _ _ c.in_ok-plan.ensures
