use Rattle.std.proofs.Common.{List, take, sym, subst}
use Rattle.std.proofs.lemmas.List.{take_more}
use Rattle.optra_node.specs.declared.Decision.{Decision}
use Rattle.optra_prices.specs.Claims.{IsClaim, AreClaims}
use Rattle.optra_prices.proofs.NumberLemmas.{zip_push}
use Rattle.optra_prices.proofs.claims.claims_of.Goals as goal

pub loop-decision-preserved : goal.loop-decision-preserved
loop-decision-preserved g c =
    let rows = g.F.RowFamily.rows_of c.args.rows.now c.args.inst.net.now in
    let bids = c.args.inst.bids.now in
    let numbered = c.args.numbering.now.rows.items in
    let decisions = c.args.decisions.now in
    let k = c.loop-decision.decision-index in
    let claims = c.loop-decision.claims.items in
    let claim = c.in_ok-claim_of.field-0 in
    subst (λ (ds : List Decision). AreClaims rows bids numbered ds c.push.new.self.items) (sym (take_more decisions k _ c.loop-decision-test.true))
    (subst (AreClaims rows bids numbered _) (sym c.in_ok-push.ensures.items) (zip_push (IsClaim rows bids numbered) (take k decisions) claims _ claim c.loop-decision.invariant c.in_ok-claim_of.ensures))
