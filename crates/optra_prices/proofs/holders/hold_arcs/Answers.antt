-- One more group has the bid.
use Rattle.std.proofs.Common.{◌≡◌, ℕ, ◌≤◌, List, length, get_or, sym, ◌∙◌, subst, arith}
use Rattle.std.specs.Prelude.{pos}
use Rattle.optra_prices.specs.ArcTerms.{ArcTerm}
use Rattle.optra_prices.specs.Holders.{HoldsGroup}
use Rattle.optra_prices.specs.Tables.{no_arc}
use Rattle.optra_prices.specs.declared.narrow_arc.NarrowArc.{NarrowArc}
use Rattle.optra_prices.proofs.HolderLemmas.{HoldsBelow, holds_none, holds_more, holds_all}
use Rattle.optra_prices.proofs.NarrowArcLemmas.{group_narrow}
use Rattle.optra_prices.proofs.holders.hold_arcs.Goals as goal

abbrev no_narrow : NarrowArc
no_narrow = record { mark = 0; cents = pos 0 }

pub narrow-init : goal.narrow-init
narrow-init c = holds_none c.args.bid c.args.arcs.now c.args.held.now

pub narrow-preserved : goal.narrow-preserved
narrow-preserved c =
    let k = c.narrow.k in
    let narrow = c.arcs.inside.narrow.now in
    let here = group_narrow narrow c.arcs.inside.wide.now k no_narrow c.narrow-test.true ∙ sym c.group.ensures in
    let same = subst (λ (arcs : List ArcTerm). (get_or arcs k no_arc).group ≡ c.group.result) c.arcs.view_is here in
    holds_more k c.args.bid c.args.arcs.now c.args.held.now c.narrow.held c.hold_group.new.held c.narrow.invariant
    (subst (λ (g : ℕ). HoldsGroup c.args.bid g c.narrow.held c.hold_group.new.held) (sym same) c.in_ok-hold_group.ensures)

pub wide-init : goal.wide-init
wide-init c =
    let all : c.narrow.k ≡ length c.arcs.inside.narrow.now = omega arith in
    subst (λ (n : ℕ). HoldsBelow n c.args.bid c.args.arcs.now c.args.held.now c.narrow.held) all c.narrow.invariant

pub wide-preserved : goal.wide-preserved
wide-preserved c =
    holds_more c.wide.k c.args.bid c.args.arcs.now c.args.held.now c.wide.held c.hold_group-in-wide.new.held c.wide.invariant
    (subst (λ (g : ℕ). HoldsGroup c.args.bid g c.wide.held c.hold_group-in-wide.new.held) c.group-in-wide.ensures c.in_ok-hold_group-2.ensures)

pub returns : goal.returns
returns c =
    let past : length c.args.arcs.now ≤ c.wide.k = omega arith in
    holds_all c.wide.k c.args.bid c.args.arcs.now c.args.held.now c.wide.held past c.wide.invariant
