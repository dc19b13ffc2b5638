use Rattle.optra_walk.specs.Families.{entries_of}
use Rattle.optra_walk.proofs.UsableLemmas.{choice_usable}
use Rattle.optra_search.proofs.TurnLemmas.{turn_unique, plan_unique}
use Rattle.optra_search.proofs.PlanLemmas.{certified, numbered}
use Rattle.optra_search.proofs.BudgetLemmas.{enough}
use Rattle.optra_search.proofs.WorthLemmas.{plan_worth}
use Rattle.optra_search.proofs.laws.plan_laws.Goals as goal

pub returns : goal.returns
returns g c =
    let net = c.args.inst.net.now in
    let bids = c.args.inst.bids.now in
    let proper = c.args.inst.proper in
    let rows = g.F.RowFamily.rows_of c.args.rows.now net in
    let cmp = g.F.Row.Ord.cmp in
    let total = g.met.F.Row.Ord.total in
    let apart = g.met.F.Row.CodedRow.tells_apart in
    let one = c.price_laws.ensures.one_result in
    record {
      one_turn = turn_unique cmp total apart net rows bids one;
      one_plan = plan_unique cmp total apart net rows bids one;
      certified = λ steps budget plan is.
          certified cmp net proper rows bids steps budget plan is (g.F.RowFamily.KeepsRule c.args.rows.now net)
          (λ choice fits. (g.met.F.RowFamily.rule_by_rows c.args.rows.now net (entries_of bids plan.choice) proper (choice_usable net proper bids plan.choice choice)).1 fits);
      numbers = λ steps budget plan is. numbered cmp net proper rows bids steps budget plan is;
      sufficient = λ steps budget plan pairs are much is. enough cmp net proper rows bids steps budget pairs are.whole plan much is;
      worth = λ steps budget plan is. plan_worth cmp net rows bids steps budget plan is;
    }
