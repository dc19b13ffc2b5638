use Rattle.std.proofs.Common.{sym, subst}
use Rattle.optra_node.specs.Spans.{IsLetBy}
use Rattle.optra_open.proofs.AtLemmas.{no_true, not_both}
use Rattle.optra_open.proofs.IndexLemmas.{let_in, let_yes, let_bucket}
use Rattle.optra_open.proofs.decision_index.DecisionIndex.let_by.Goals as goal

pub returns-then-not-let_by : goal.returns-then-not-let_by
returns-then-not-let_by c bids node is =
    let net = c.args.net.now in
    let kind = c.args.kind in
    let bid = c.args.bid in
    let leg = c.args.leg in
    let e = c.yes_of.ensures bids node is in (
      λ t. absurd (no_true t),
      λ h. absurd (not_both c.let_by.result c.if-not-let_by.true (c.let_by.ensures.1 (subst (λ o. IsLetBy net o bid kind leg) (sym e) (let_yes net kind bid leg node h)))),
    )

pub returns : goal.returns
returns c bids node is =
    let net = c.args.net.now in
    let kind = c.args.kind in
    let bid = c.args.bid in
    let leg = c.args.leg in
    let e = c.yes_of.ensures bids node is in
    let f = c.bucket.ensures bids node is in
    let yeses = subst (λ o. IsLetBy net o bid kind leg) e (c.let_by.ensures.0 c.if-not-let_by.false) in (
      λ t. let_in net kind bid leg node yeses (subst (λ o. IsLetBy net o bid kind leg) f (c.let_by-2.ensures.0 t)),
      λ h. c.let_by-2.ensures.1 (subst (λ o. IsLetBy net o bid kind leg) (sym f) (let_bucket net kind bid leg node h)),
    )
