use Rattle.std.proofs.Common.{◌≡◌, ◌+◌, ◌<◌, ◌^◌, ◌∙◌, sym, ap, subst, arith}
use Rattle.std.proofs.lemmas.Result.{on_ok_weaker}
use Rattle.optra_network.specs.declared.TypeId.{TypeId}
use Rattle.optra_walk.specs.Families.{total_of}
use Rattle.optra_node.specs.Nodes.{yes_uses}
use Rattle.optra_open.proofs.AtLemmas.{not_both}
use Rattle.optra_open.proofs.UseLemmas.{no_uses, uses_by_kind}
use Rattle.optra_open.proofs.decision_uses.add_decision.Goals as goal

pub returns-then-not-decision : goal.returns-then-not-decision
returns-then-not-decision g c q =
    let e = no_uses (g.F.RowFamily.rows_of c.args.rows.now c.args.inst.net.now) c.args.inst.bids.now q c.args.decision c.if-not-decision.true in
    omega (arith, e)

pub returns-then-not-may_use : goal.returns-then-not-may_use
returns-then-not-may_use g c q =
    let d = c.args.decision in
    let net = c.args.inst.net.now in
    let bids = c.args.inst.bids.now in
    let rows = g.F.RowFamily.rows_of c.args.rows.now net in
    let none = g.met.F.RowFamily.unusable_uses_none c.args.rows.now net c.kind_at-kind.result d.leg q (λ m. not_both c.may_use.result c.if-not-may_use.true (c.may_use.ensures.1 m)) in
    let e : yes_uses rows bids q d ≡ 0 =
    uses_by_kind rows bids q d c.if-not-decision.false c.requires.decision.in_range ∙ ap (λ (k : TypeId). rows.uses k d.leg q) (sym c.kind_at-kind.ensures) ∙ none in
    omega (arith, e)

pub add_leg-requires-clause-usable : goal.add_leg-requires-clause-usable
add_leg-requires-clause-usable g c = record {
  proper = c.args.inst.proper;
  may_use = c.may_use.ensures.0 c.if-not-may_use.false;
  depart = c.requires.decision.formed.depart;
  dwell = c.requires.decision.formed.dwell;
}

pub add_leg-requires-clause-below : goal.add_leg-requires-clause-below
add_leg-requires-clause-below g c q =
    let d = c.args.decision in
    let net = c.args.inst.net.now in
    let rows = g.F.RowFamily.rows_of c.args.rows.now net in
    let e = uses_by_kind rows c.args.inst.bids.now q d c.if-not-decision.false c.requires.decision.in_range ∙ ap (λ (k : TypeId). rows.uses k d.leg q) (sym c.kind_at-kind.ensures) in
    subst (λ n. total_of g.F.Row.Ord.cmp c.args.totals.now.sums q + n < 2 ^ 100) e (c.requires.below q)

pub returns : goal.returns
returns g c =
    let d = c.args.decision in
    let net = c.args.inst.net.now in
    let rows = g.F.RowFamily.rows_of c.args.rows.now net in
    on_ok_weaker c.add_leg.result
    (λ added q. added q ∙ ap (λ n. total_of g.F.Row.Ord.cmp c.args.totals.now.sums q + n)
    (sym (uses_by_kind rows c.args.inst.bids.now q d c.if-not-decision.false c.requires.decision.in_range ∙ ap (λ (k : TypeId). rows.uses k d.leg q) (sym c.kind_at-kind.ensures)))) c.add_leg.ensures.added
