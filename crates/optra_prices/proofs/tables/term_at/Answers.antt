use Rattle.std.proofs.Common.{ℕ, Option, unwrap_or, sym, ap, ◌∙◌, subst}
use Rattle.optra_network.specs.declared.TypeId.{TypeId}
use Rattle.optra_walk.specs.Families.{IsUsable}
use Rattle.optra_prices.specs.Makings.{IsGroupOf}
use Rattle.optra_prices.proofs.TermLemmas.{arc_usable, start_is_term, leg_is_term}
use Rattle.optra_prices.proofs.tables.term_at.Goals as goal

pub leg_group-requires-clause-usable : goal.leg_group-requires-clause-usable
leg_group-requires-clause-usable g c =
    subst (λ kind. IsUsable c.args.net.now kind c.in-Some.leg) (sym c.kind_of.ensures)
    (arc_usable c.args.net.now c.laws.ensures c.args.bid.now c.args.graph.now c.requires.graph c.args.k c.in-Some.leg c.requires.within (sym c.leg.ensures ∙ c.in-Some.is))

pub returns-in_default-clause-term : goal.returns-in_default-clause-term
returns-in_default-clause-term g c =
    let net = c.args.net.now in
    let f = c.args.rows.now in
    let is = c.start_term.ensures in
    let minute = c.unwrap_or-minute.ensures ∙ ap (λ (o : Option ℕ). unwrap_or o 0) c.start.ensures in
    start_is_term net (g.F.RowFamily.rows_of f net) (g.F.RowFamily.rows_used f net) c.args.bid.now c.args.graph.now c.args.making.now.named.items c.args.making.now.groups.starts.items c.args.making.now.groups.touches c.args.k
    c.unwrap_or-minute.result c.start_term.result c.requires.making.groups_are (sym c.leg.ensures ∙ c.in_default.is) minute is.value is.range is.group

pub returns-clause-term : goal.returns-clause-term
returns-clause-term g c =
    let net = c.args.net.now in
    let f = c.args.rows.now in
    let leg = c.in-Some.leg in
    let making = c.leg_group.new.making in
    let found = subst (λ (kind : TypeId). IsGroupOf (g.F.RowFamily.rows_of f net) (g.F.RowFamily.rows_used f net) kind leg making.named.items making.groups c.in_ok-group.group) c.kind_of.ensures c.in_ok-group.ensures.found in
    let is = c.leg_term.ensures in
    leg_is_term net (g.F.RowFamily.rows_of f net) (g.F.RowFamily.rows_used f net) c.args.bid.now c.args.graph.now making.named.items making.groups.starts.items making.groups.touches c.args.k leg
    c.leg_term.result c.in_ok-group.group (sym c.leg.ensures ∙ c.in-Some.is) is.value is.range is.group found.within found.touches
