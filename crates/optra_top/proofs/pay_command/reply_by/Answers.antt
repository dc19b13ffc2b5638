-- The payments at the plan's choice are printed.
use Rattle.std.proofs.Common.{refl, rules, sym, subst, All}
use Rattle.optra_payment.specs.Allowed.{IsAllowed}
use Rattle.optra_payment.specs.Payments.{HoldsPayment, IsFoundInterval}
use Rattle.optra_search.specs.Planner.{Planned}
use Rattle.optra_top.specs.PaymentPlans.{IsPlanFound}
use Rattle.optra_top.proofs.pay_command.reply_by.Goals as goal

pub payments-requires : goal.payments-requires
payments-requires g c =
    let valid = c.in_ok-plan.ensures.plan_is.certified.valid in
    subst (λ (p : Planned g.row.F-Row.Denot). IsAllowed c.args.inst.net.now (g.F.RowFamily.KeepsRule c.args.rows.now c.args.inst.net.now) c.args.inst.bids.now p.choice) (sym c.plan.view_is)
    (record { choice = valid.walks; rule = valid.rule })

pub returns : goal.returns
returns g c =
    let net = c.args.inst.net.now in
    let rows = c.args.rows.now in
    let bids = c.args.inst.bids.now in
    record {
      bids = bids;
      are_those = refl;
      plan = c.in_ok-plan.plan;
      is_plan = c.in_ok-plan.ensures;
      pays = c.in_ok-pays.pays.items;
      bidders = c.in_ok-pays.ensures.bidders;
      found = subst (λ (p : Planned g.row.F-Row.Denot). All (IsFoundInterval (λ others found. IsPlanFound g.F.Row.Ord.cmp net (g.F.RowFamily.rows_of rows net) (g.F.RowFamily.KeepsRule rows net) others c.args.limits found) net bids p.choice) c.in_ok-pays.pays.items)
          c.plan.view_is c.in_ok-pays.ensures.found;
      payments = subst (λ (p : Planned g.row.F-Row.Denot). All (HoldsPayment net (g.F.RowFamily.KeepsRule rows net) bids p.choice) c.in_ok-pays.pays.items) c.plan.view_is c.in_ok-pays.ensures.payments;
      printed = search (rules, c.in_ok-text.ensures);
      ends = search (rules, c.status-status.ensures);
      put = search rules;
    }
