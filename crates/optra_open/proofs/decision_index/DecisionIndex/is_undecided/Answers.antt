use Rattle.std.proofs.Common.{sym, subst}
use Rattle.optra_node.specs.Nodes.{IsUndecided}
use Rattle.optra_open.proofs.IndexLemmas.{undecided_in}
use Rattle.optra_open.proofs.decision_index.DecisionIndex.is_undecided.Goals as goal

pub returns : goal.returns
returns c bids node is =
    let e = c.bucket.ensures bids node is in
    let bid = c.args.bid in
    let leg = c.args.leg in
    let both = undecided_in bid leg node in (
      λ t. both.0 (subst (λ o. IsUndecided o bid leg) e (c.is_undecided.ensures.0 t)),
      λ h. c.is_undecided.ensures.1 (subst (λ o. IsUndecided o bid leg) (sym e) (both.1 h)),
    )
