use Rattle.std.proofs.Common.{◌+◌, ℕ, List, take, sym, ap, ◌∙◌, subst}
use Rattle.std.proofs.lemmas.List.Sums.{sum_by_more}
use Rattle.optra_prices.specs.Claims.{claim_uses}
use Rattle.optra_prices.specs.Uses.{AddsUses, touch_uses}
use Rattle.optra_prices.specs.declared.claims.Claim.{Claim}
use Rattle.optra_prices.specs.declared.touch.Touch.{Touch}
use Rattle.optra_prices.proofs.UseLemmas.{adds_on}
use Rattle.optra_prices.proofs.claims.add_claims.Goals as goal

pub loop-claim-preserved : goal.loop-claim-preserved
loop-claim-preserved c =
    let inv = c.loop-claim.invariant in
    let is = c.in_ok-add_touches.ensures in
    let claims = c.args.claims.now in
    let k = c.loop-claim.claim-index in
    let old = c.args.room.now.loads.uses in
    let mid = c.loop-claim.room.loads.uses in
    let new = c.add_touches.new.room.loads.uses in
    let claim = c.claim-item.result in
    let used = λ (n : ℕ) (x : Claim). touch_uses x.touches.items n in
    let sum = λ (n : ℕ). ap (λ (x : Claim). claim_uses (take k claims) n + used n x) c.claim-item.is ∙ sym (sum_by_more (used n) claims k claim c.loop-claim-test.true) in
    let more = subst (λ (touches : List Touch). AddsUses (touch_uses touches) mid new) c.claimed.ensures is.uses in
    record {
      uses = adds_on old mid new (claim_uses (take k claims)) (touch_uses claim.touches.items) (claim_uses (take (k + 1) claims)) sum inv.uses more;
      capacities = is.capacities ∙ inv.capacities;
    }
