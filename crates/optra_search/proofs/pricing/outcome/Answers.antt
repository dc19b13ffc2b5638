-- A node that does not close has a split leg.
use Rattle.std.proofs.Common.{◌≡◌, List, sym, ap, ◌∙◌, subst, rules, FitsSigned}
use Rattle.std.specs.Prelude.{Option, ◌<ℤ◌}
use Rattle.std.specs.Int.{w64, w128}
use Rattle.std.proofs.lemmas.Int.{to_z-of_z}
use Rattle.optra_walk.specs.declared.Leg.{Leg}
use Rattle.optra_node.specs.Duals.{whole_cents}
use Rattle.optra_prices.specs.Courses.{replies_at}
use Rattle.optra_prices.specs.Overfull.{AreOverfilled}
use Rattle.optra_prices.specs.Replies.{Valuation}
use Rattle.optra_search.specs.Marks.{IsSplitLegOrNone}
use Rattle.optra_search.proofs.BoundLemmas.{outcome_of}
use Rattle.optra_search.proofs.pricing.outcome.Goals as goal

pub split_leg-requires-clause-listed : goal.split_leg-requires-clause-listed
split_leg-requires-clause-listed g c =
    let rows = g.F.RowFamily.rows_of c.args.rows.now c.args.inst.net.now in
    let bids = c.args.inst.bids.now in
    let kept = c.args.kept.now in
    let replies : c.deref.result.now ≡ replies_at kept = c.deref.ensures.value ∙ ap (λ (v : Valuation). v.replies) c.dual.view_is ∙ c.requires.stand in
    subst (λ (walks : List (Option (List Leg))). AreOverfilled rows bids walks c.deref-2.result.now) (sym replies)
    (subst (λ (listed : List g.row.F-Row.Denot). AreOverfilled rows bids (replies_at kept) listed) (sym c.deref-2.ensures.value) c.in_ok-listed.ensures.rows)

pub returns-clause-outcome : goal.returns-clause-outcome
returns-clause-outcome g c =
    let net = c.args.inst.net.now in
    let rows = g.F.RowFamily.rows_of c.args.rows.now net in
    let bids = c.args.inst.bids.now in
    let now = c.args.search.now in
    let found = c.in_ok-found.found in
    let fits : FitsSigned w128 c.dual.inside.value = search rules in
    let money : FitsSigned w64 c.args.search.now.revenue = search rules in
    let above : now.revenue <ℤ whole_cents c.dual.inside.value = simp to_z-of_z at (rw c.if-is_low.false at c.is_low.ensures) in
    let split : IsSplitLegOrNone net rows bids now.node c.dual.inside.replies.items found = rw c.deref.ensures.value at c.in_ok-found.ensures in
    outcome_of net rows bids now.node c.args.dual.now now.revenue found c.requires.closes
    (subst (λ (v : Valuation). now.revenue <ℤ whole_cents v.value) c.dual.view_is above)
    (subst (λ (v : Valuation). IsSplitLegOrNone net rows bids now.node v.replies found) c.dual.view_is split)
