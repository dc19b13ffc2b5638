use Rattle.std.proofs.Common.{◌≡◌, ◌≤◌, ◌+◌, ◌∙◌, sym, ap, subst, arith}
use Rattle.optra_network.specs.declared.TypeId.{TypeId}
use Rattle.optra_walk.specs.Families.{total_of}
use Rattle.optra_node.specs.Nodes.{yes_uses}
use Rattle.optra_open.proofs.AtLemmas.{not_both}
use Rattle.optra_open.proofs.UseLemmas.{no_uses, uses_by_kind}
use Rattle.optra_open.proofs.decision_uses.take_decision.Goals as goal

pub returns-then-not-decision : goal.returns-then-not-decision
returns-then-not-decision g c q =
    let e = no_uses (g.F.RowFamily.rows_of c.args.rows.now c.args.inst.net.now) c.args.inst.bids.now q c.args.decision c.if-not-decision.true in
    omega (arith, e)

pub returns-then-not-may_use : goal.returns-then-not-may_use
returns-then-not-may_use g c q =
    let d = c.args.decision in
    let net = c.args.inst.net.now in
    let bids = c.args.inst.bids.now in
    let rows = g.F.RowFamily.rows_of c.args.rows.now net in
    let none = g.met.F.RowFamily.unusable_uses_none c.args.rows.now net c.kind_at-kind.result d.leg q (λ m. not_both c.may_use.result c.if-not-may_use.true (c.may_use.ensures.1 m)) in
    let e : yes_uses rows bids q d ≡ 0 =
    uses_by_kind rows bids q d c.if-not-decision.false c.requires.decision.in_range ∙ ap (λ (k : TypeId). rows.uses k d.leg q) (sym c.kind_at-kind.ensures) ∙ none in
    omega (arith, e)

pub take_leg-requires-clause-usable : goal.take_leg-requires-clause-usable
take_leg-requires-clause-usable g c = record {
  proper = c.args.inst.proper;
  may_use = c.may_use.ensures.0 c.if-not-may_use.false;
  depart = c.requires.decision.formed.depart;
  dwell = c.requires.decision.formed.dwell;
}

pub take_leg-requires-clause-enough : goal.take_leg-requires-clause-enough
take_leg-requires-clause-enough g c q =
    let d = c.args.decision in
    let net = c.args.inst.net.now in
    let rows = g.F.RowFamily.rows_of c.args.rows.now net in
    let e = uses_by_kind rows c.args.inst.bids.now q d c.if-not-decision.false c.requires.decision.in_range ∙ ap (λ (k : TypeId). rows.uses k d.leg q) (sym c.kind_at-kind.ensures) in
    subst (λ n. n ≤ total_of g.F.Row.Ord.cmp c.args.totals.now.sums q) e (c.requires.enough q)

pub returns : goal.returns
returns g c q =
    let d = c.args.decision in
    let net = c.args.inst.net.now in
    let rows = g.F.RowFamily.rows_of c.args.rows.now net in
    let e = uses_by_kind rows c.args.inst.bids.now q d c.if-not-decision.false c.requires.decision.in_range ∙ ap (λ (k : TypeId). rows.uses k d.leg q) (sym c.kind_at-kind.ensures) in
    ap (λ n. total_of g.F.Row.Ord.cmp c.take_leg.new.self.sums q + n) e ∙ c.take_leg.ensures q
