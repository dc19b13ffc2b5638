-- The plan's certificate can be written, and the verdict on its text is Yes.
use Rattle.std.proofs.Common.{◌≡◌, ℤ, refl, ap, subst, ◌∙◌, rules, length}
use Rattle.optra_cert.specs.CertTexts.{cert_text}
use Rattle.optra_cert.specs.Certs.{Cert, IsWritable}
use Rattle.optra_cert.specs.Headways.{headway_texts}
use Rattle.optra_rows.specs.Headways.{headway_rows, KeepsHeadwayRule}
use Rattle.optra_rows.specs.TouchedLemmas.{row_cmp}
use Rattle.optra_rows.specs.declared.HRow.{HRow}
use Rattle.optra_text.specs.DemoTexts.{demo_text_of}
use Rattle.optra_text.specs.declared.verdicts.VerdictView.{VerdictView}
use Rattle.optra_text.specs.declared.verdicts.VerdictView.TheVariants.{Yes}
use Rattle.optra_top.specs.PlanCommand.{IsStatusOf}
use Rattle.optra_play.specs.Certificates.{certificate_of}
use Rattle.optra_play.proofs.AmountLemmas.{plan-writable}
use Rattle.optra_top.proofs.DemoLemmas.{plan-confirmed}
use Rattle.optra_top.proofs.demo_command.answer.Goals as goal

pub write_certificate-requires-clause-writable : goal.write_certificate-requires-clause-writable
write_certificate-requires-clause-writable c =
    rw c.certificate_of-cert.ensures (
    plan-writable row_cmp headway_texts c.args.inst.net.now (headway_rows c.args.inst.net.now) (KeepsHeadwayRule c.args.inst.net.now) c.args.inst.bids.now 20 5 c.in_ok-plan.plan
    c.valid_is_writable.ensures c.headway_rows_are_told.ensures.few c.args.inst.few c.in_ok-plan.ensures
    )

pub returns : goal.returns
returns c =
    let net = c.args.inst.net.now in
    let bids = c.args.inst.bids.now in
    let plan = c.in_ok-plan.plan in
    let r : c.certificate_of-cert.result.revenue ≡ c.in_ok-plan.plan.revenue = ap (λ (cert : Cert HRow). cert.revenue) c.certificate_of-cert.ensures in
    let b : c.certificate_of-cert.result.bound ≡ c.in_ok-plan.plan.bound = ap (λ (cert : Cert HRow). cert.bound) c.certificate_of-cert.ensures in
    let writable : IsWritable row_cmp headway_texts c.args.inst.net.now (length c.args.inst.bids.now) headway_texts.version (certificate_of c.in_ok-plan.plan) =
    plan-writable row_cmp headway_texts c.args.inst.net.now (headway_rows c.args.inst.net.now) (KeepsHeadwayRule c.args.inst.net.now) c.args.inst.bids.now 20 5 c.in_ok-plan.plan
    c.valid_is_writable.ensures c.headway_rows_are_told.ensures.few c.args.inst.few c.in_ok-plan.ensures in
    let text : c.in_ok-bytes.bytes.items ≡ cert_text headway_texts c.args.inst.net.now headway_texts.version (certificate_of c.in_ok-plan.plan) = rw c.certificate_of-cert.ensures at c.in_ok-bytes.ensures in
    let yes : c.in_ok-verdict.verdict ≡ Yes c.in_ok-plan.plan.revenue c.in_ok-plan.plan.bound =
    plan-confirmed c.args.inst.net.now c.args.inst.bids.now c.text_tells_cert.ensures c.text_has_no_fault.ensures 20 5 c.in_ok-plan.plan c.in_ok-bytes.bytes.items c.in_ok-verdict.verdict c.in_ok-plan.ensures writable text
    (rw c.deref.ensures.value at c.in_ok-verdict.ensures) in
    let told : c.in_ok-text.text.items ≡ demo_text_of c.args.seed c.args.size c.args.inst.net.now (length c.args.inst.bids.now) c.certificate_of-cert.result.revenue c.certificate_of-cert.result.bound c.in_ok-plan.plan.nodes c.in_ok-verdict.verdict =
    search (rules, c.in_ok-text.ensures) in
    let ends : IsStatusOf c.certificate_of-cert.result.revenue c.certificate_of-cert.result.bound c.status-status.result = search (rules, c.status-status.ensures) in
    record {
      bids = c.args.inst.bids.now;
      are_those = refl;
      plan = c.in_ok-plan.plan;
      is_plan = c.in_ok-plan.ensures;
      printed = told ∙ ap (λ (v : VerdictView). demo_text_of c.args.seed c.args.size c.args.inst.net.now (length c.args.inst.bids.now) c.certificate_of-cert.result.revenue c.certificate_of-cert.result.bound c.in_ok-plan.plan.nodes v) yes
          ∙ ap (λ (z : ℤ). demo_text_of c.args.seed c.args.size c.args.inst.net.now (length c.args.inst.bids.now) z c.certificate_of-cert.result.bound c.in_ok-plan.plan.nodes (Yes c.in_ok-plan.plan.revenue c.in_ok-plan.plan.bound)) r
          ∙ ap (λ (z : ℤ). demo_text_of c.args.seed c.args.size c.args.inst.net.now (length c.args.inst.bids.now) c.in_ok-plan.plan.revenue z c.in_ok-plan.plan.nodes (Yes c.in_ok-plan.plan.revenue c.in_ok-plan.plan.bound)) b;
      ends = subst (λ (z : ℤ). IsStatusOf c.in_ok-plan.plan.revenue z c.status-status.result) b (subst (λ (z : ℤ). IsStatusOf z c.certificate_of-cert.result.bound c.status-status.result) r ends);
      put = search rules;
    }
