-- The text is that of the figures, as they are printed.
use Rattle.std.proofs.Common.{◌≡◌, ◌∙◌, map, sym, ap, subst, rules}
use Rattle.std.specs.Prelude.{All, FitsSigned}
use Rattle.std.specs.Int.{w64}
use Rattle.std.proofs.lemmas.Int.{to_z-of_z}
use Rattle.std.proofs.lemmas.Result.{IfOk-weaker}
use Rattle.optra_cert.specs.Certs.{Cert}
use Rattle.optra_text.specs.EvidenceTexts.{AreFigures, evidence_text_of}
use Rattle.optra_evidence_top.specs.EvidenceCommand.{seen}
use Rattle.optra_evidence_top.proofs.BoundLemmas.{figures_shown}
use Rattle.optra_evidence_top.proofs.evidence_command.evidence_of.Goals as goal

pub evidence_text-text-requires-clause-figures : goal.evidence_text-text-requires-clause-figures
evidence_text-text-requires-clause-figures g c =
    let figures = c.in_ok-figures.figures.items in
    let shown : c.deref-2.result.now ≡ map seen figures = c.deref-2.ensures.value ∙ c.in_ok-seen.ensures ∙ ap (map seen) c.deref.ensures.value in
    subst (All AreFigures) (sym shown) (figures_shown figures c.in_ok-figures.ensures.small)

pub returns : goal.returns
returns g c =
    let net = c.args.inst.net.now in
    let bids = c.args.inst.bids.now in
    let figures = c.in_ok-figures.figures.items in
    let shown : c.deref-2.result.now ≡ map seen figures = c.deref-2.ensures.value ∙ c.in_ok-seen.ensures ∙ ap (map seen) c.deref.ensures.value in
    let revenue_fits : FitsSigned w64 c.cert.inside.revenue = search rules in
    let bound_fits : FitsSigned w64 c.cert.inside.bound = search rules in
    let revenue = to_z-of_z w64 c.cert.inside.revenue revenue_fits ∙ ap (λ (v : Cert g.row.F-Row.Denot). v.revenue) c.cert.view_is in
    let bound = to_z-of_z w64 c.cert.inside.bound bound_fits ∙ ap (λ (v : Cert g.row.F-Row.Denot). v.bound) c.cert.view_is in
    IfOk-weaker c.evidence_text-text.result _ _
    (λ text is. record {
      figures = figures;
      evidence = c.in_ok-figures.ensures;
      printed = is ∙ (λ i. evidence_text_of net bids (c.entries.ensures i) (revenue i) (bound i) (shown i));
    })
    c.evidence_text-text.ensures
