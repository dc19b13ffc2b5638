-- The replies of a valuation are walks of their bids.
use Rattle.std.proofs.Common.{sym, ap, ◌∙◌, subst}
use Rattle.optra_walk.specs.Choices.{IsChoice}
use Rattle.optra_rows.specs.Headways.{headway_rows}
use Rattle.optra_prices.specs.Replies.{Valuation}
use Rattle.optra_prices.proofs.ChoiceLemmas.{replies_are_choice}
use Rattle.optra_tests.proofs.prices.stepped.Goals as goal

pub step-requires-clause-replies : goal.step-requires-clause-replies
step-requires-clause-replies g c =
    let net = c.args.inst.net.now in
    let bids = c.args.inst.bids.now in
    let same = c.deref.ensures.value ∙ ap (λ (v : Valuation). v.replies) c.before-2.view_is in
    subst (IsChoice net bids) (sym same)
    (replies_are_choice net (headway_rows net) bids c.args.node.now c.args.prices.now c.in_ok-before.before.replies c.in_ok-before.ensures.replies)
