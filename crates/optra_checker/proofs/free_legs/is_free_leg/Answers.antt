use Rattle.std.proofs.Common.{◌∙◌, sym, rules}
use Rattle.std.specs.Prelude.{FitsSigned}
use Rattle.std.specs.Int.{w128}
use Rattle.std.proofs.lemmas.Bool.{false≢true}
use Rattle.std.proofs.lemmas.Int.{to_z-of_z}
use Rattle.std.proofs.lemmas.Bool.Decides.{same_from_decides}
use Rattle.optra_node.specs.Nodes.{kind_at}
use Rattle.optra_open.specs.Tests.{may_have_leg}
use Rattle.optra_open.proofs.TestLemmas.{leg_tested}
use Rattle.optra_open.proofs.UsedLemmas.{usable_is_formed}
use Rattle.optra_open.proofs.AtLemmas.{no_true}
use Rattle.optra_checker.proofs.free_legs.is_free_leg.Goals as goal

pub leg_ok-requires-clause-leg : goal.leg_ok-requires-clause-leg
leg_ok-requires-clause-leg g c =
    let node = c.args.node.now in
    let proper = c.requires.usable.proper in
    usable_is_formed node.net (kind_at node.bids c.args.bid) c.args.leg proper c.requires.usable

pub returns-then-not-leg_ok : goal.returns-then-not-leg_ok
returns-then-not-leg_ok g c =
    let node = c.args.node.now in
    let kind = kind_at node.bids c.args.bid in
    let rows = g.F.RowFamily.rows_of node.family node.net in
    let used = g.F.RowFamily.rows_used node.family node.net in
    let proper = c.requires.usable.proper in
    let lists = g.met.F.RowFamily.lists_rows node.family node.net kind c.args.leg c.requires.usable in
    let is =
    same_from_decides c.leg_ok.result (may_have_leg node.net rows used node.bids node.node c.args.bid kind c.args.leg) c.leg_ok.ensures
    (leg_tested node.net kind g.F.Row.Ord.cmp rows used node.bids node.node c.args.bid c.args.leg lists) in (
      λ t. absurd (no_true t),
      λ h. absurd (false≢true (sym c.if-not-leg_ok.true ∙ is ∙ h.may)),
    )

pub returns : goal.returns
returns g c =
    let node = c.args.node.now in
    let kind = kind_at node.bids c.args.bid in
    let rows = g.F.RowFamily.rows_of node.family node.net in
    let used = g.F.RowFamily.rows_used node.family node.net in
    let proper = c.requires.usable.proper in
    let lists = g.met.F.RowFamily.lists_rows node.family node.net kind c.args.leg c.requires.usable in
    let is =
    same_from_decides c.leg_ok.result (may_have_leg node.net rows used node.bids node.node c.args.bid kind c.args.leg) c.leg_ok.ensures
    (leg_tested node.net kind g.F.Row.Ord.cmp rows used node.bids node.node c.args.bid c.args.leg lists) in
    let fits : FitsSigned w128 c.leg_price.result = search rules in
    let n = to_z-of_z w128 c.leg_price.result fits in (
      λ t. record { may = sym is ∙ c.if-not-leg_ok.false; none = sym c.leg_price.ensures.value ∙ sym n ∙ c.is_zero.ensures.0 t },
      λ h. c.is_zero.ensures.1 (n ∙ c.leg_price.ensures.value ∙ h.none),
    )

pub leg_price-requires-clause-ascending : goal.leg_price-requires-clause-ascending
leg_price-requires-clause-ascending g c = c.requires.ascending

pub leg_price-requires-clause-proper : goal.leg_price-requires-clause-proper
leg_price-requires-clause-proper g c = c.requires.proper

pub leg_price-requires-clause-usable : goal.leg_price-requires-clause-usable
leg_price-requires-clause-usable g c = c.requires.usable
