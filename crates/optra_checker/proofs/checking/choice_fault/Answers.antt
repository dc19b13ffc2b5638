-- What is asked of the listed walks is true of the certificate's choice.
use Rattle.std.proofs.Common.{◌≡◌, ◌∙◌, List, Option, length, sym, ap, subst, rules, w64, to_z, of_z}
use Rattle.std.specs.Prelude.{FitsSigned}
use Rattle.std.proofs.lemmas.Int.{to_z-of_z}
use Rattle.optra_walk.specs.declared.Leg.{Leg}
use Rattle.optra_walk.specs.Choices.{IsChoice, revenue_of}
use Rattle.optra_walk.specs.Families.{entries_of}
use Rattle.optra_cert.specs.Certs.{Cert}
use Rattle.optra_open.proofs.AtLemmas.{not_both}
use Rattle.optra_checker.proofs.checking.choice_fault.Goals as goal

pub walks_hold-requires : goal.walks_hold-requires
walks_hold-requires g c = ap length c.entries-walks.ensures ∙ c.requires.formed.entries

pub returns-then-not-walks_hold : goal.returns-then-not-walks_hold
returns-then-not-walks_hold g c h =
    not_both c.walks_hold.result c.if-not-walks_hold.true (c.walks_hold.ensures.1 (subst (IsChoice c.args.inst.net.now c.args.inst.bids.now) (sym c.entries-walks.ensures) h))

pub rule_holds-requires : goal.rule_holds-requires
rule_holds-requires g c = c.walks_hold.ensures.0 c.if-not-walks_hold.false

pub returns-then-not-branch : goal.returns-then-not-branch
returns-then-not-branch g c =
    let net = c.args.inst.net.now in
    let bids = c.args.inst.bids.now in
    let is = c.entries-walks.ensures in
    let Keeps = λ (choice : List (Option (List Leg))). g.F.RowFamily.KeepsRule c.args.rows.now net (entries_of bids choice) in (
      subst (IsChoice net bids) is (c.walks_hold.ensures.0 c.if-not-walks_hold.false),
      λ h. not_both c.in_ok-rule_holds.field-0 c.if-not-branch.true (c.in_ok-rule_holds.ensures.1 (subst Keeps (sym is) h)),
    )

pub revenue-requires-clause-few : goal.revenue-requires-clause-few
revenue-requires-clause-few g c = c.args.inst.few

pub revenue-requires-clause-choice : goal.revenue-requires-clause-choice
revenue-requires-clause-choice g c = c.walks_hold.ensures.0 c.if-not-walks_hold.false

pub returns-then-revenue-cert : goal.returns-then-revenue-cert
returns-then-revenue-cert g c =
    let net = c.args.inst.net.now in
    let bids = c.args.inst.bids.now in
    let is = c.entries-walks.ensures in
    let Keeps = λ (choice : List (Option (List Leg))). g.F.RowFamily.KeepsRule c.args.rows.now net (entries_of bids choice) in (
      subst (IsChoice net bids) is (c.walks_hold.ensures.0 c.if-not-walks_hold.false),
      subst Keeps is (c.in_ok-rule_holds.ensures.0 c.if-not-branch.false),
      λ h. c.if-revenue-cert.true (ap (of_z w64) (c.revenue.ensures ∙ ap (revenue_of net bids) is ∙ sym h ∙ sym (ap (λ (v : Cert g.row.F-Row.Denot). v.revenue) c.cert.view_is))),
    )

pub returns : goal.returns
returns g c =
    let net = c.args.inst.net.now in
    let bids = c.args.inst.bids.now in
    let is = c.entries-walks.ensures in
    let Keeps = λ (choice : List (Option (List Leg))). g.F.RowFamily.KeepsRule c.args.rows.now net (entries_of bids choice) in
    let fits : FitsSigned w64 c.revenue.result = search rules in
    let stated_fits : FitsSigned w64 c.cert.inside.revenue = search rules in
    let same : c.revenue.result ≡ c.cert.inside.revenue =
    sym (to_z-of_z w64 c.revenue.result fits) ∙ ap (to_z w64) c.if-revenue-cert.false ∙ to_z-of_z w64 c.cert.inside.revenue stated_fits in
    record {
      walks = subst (IsChoice net bids) is (c.walks_hold.ensures.0 c.if-not-walks_hold.false);
      rule = subst Keeps is (c.in_ok-rule_holds.ensures.0 c.if-not-branch.false);
      revenue_is = sym (ap (λ (v : Cert g.row.F-Row.Denot). v.revenue) c.cert.view_is) ∙ sym same ∙ c.revenue.ensures ∙ ap (revenue_of net bids) is;
    }
