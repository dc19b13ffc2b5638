-- The plan of the bids is printed, and its certificate can be written.
use Rattle.std.proofs.Common.{refl, rules}
use Rattle.optra_play.proofs.AmountLemmas.{plan-writable}
use Rattle.optra_top.proofs.plan_command.reply_by.Goals as goal

pub certificate_puts-requires-clause-writable : goal.certificate_puts-requires-clause-writable
certificate_puts-requires-clause-writable g c =
    rw c.certificate_of.ensures (
    plan-writable g.F.Row.Ord.cmp (g.F.RowText.texts_of c.args.rows.now) c.args.inst.net.now (g.F.RowFamily.rows_of c.args.rows.now c.args.inst.net.now) (g.F.RowFamily.KeepsRule c.args.rows.now c.args.inst.net.now)
    c.args.inst.bids.now c.args.limits.steps c.args.limits.budget c.in_ok-plan.plan c.valid_is_writable.ensures c.requires.few c.args.inst.few c.in_ok-plan.ensures
    )

pub returns : goal.returns
returns g c = record {
  bids = c.args.inst.bids.now;
  are_those = refl;
  plan = c.in_ok-plan.plan;
  is_plan = c.in_ok-plan.ensures;
  printed = search (rules, c.in_ok-text.ensures);
  ends = search (rules, c.status-status.ensures);
  writable = plan-writable g.F.Row.Ord.cmp (g.F.RowText.texts_of c.args.rows.now) c.args.inst.net.now (g.F.RowFamily.rows_of c.args.rows.now c.args.inst.net.now) (g.F.RowFamily.KeepsRule c.args.rows.now c.args.inst.net.now)
      c.args.inst.bids.now c.args.limits.steps c.args.limits.budget c.in_ok-plan.plan c.valid_is_writable.ensures c.requires.few c.args.inst.few c.in_ok-plan.ensures;
  put = rw c.certificate_of.ensures at c.in_ok-puts.ensures;
}
