-- The plan of the search is the plan of its bids.
use Rattle.std.proofs.lemmas.Result.{IfOk-weaker}
use Rattle.optra_play.proofs.PlanLemmas.{plan-is_plan}
use Rattle.optra_play.proofs.plans.plan_over.Goals as goal

pub returns-clause-plan : goal.returns-clause-plan
returns-clause-plan g c =
    let net = c.args.inst.net.now in
    let rows = c.args.rows.now in
    IfOk-weaker c.certified_plan_over.result _ _
    (λ plan is. plan-is_plan g.F.Row.Ord.cmp net (g.F.RowFamily.rows_of rows net) (g.F.RowFamily.KeepsRule rows net) c.args.inst.bids.now c.requires.rule c.args.limits.steps c.args.limits.budget plan is)
    c.certified_plan_over.ensures.plan
