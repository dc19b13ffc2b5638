use Rattle.std.proofs.Common.{◌+◌, ◌∙◌, ℕ, List, [], take, refl, sym, ap, subst}
use Rattle.std.proofs.lemmas.List.Sums.{sum_by_more}
use Rattle.optra_prices.specs.Claims.{claim_uses}
use Rattle.optra_prices.specs.Columns.{IsColumns}
use Rattle.optra_prices.specs.Tellings.{MarksUsed}
use Rattle.optra_prices.specs.Uses.{touch_uses}
use Rattle.optra_prices.specs.declared.claims.Claim.{Claim}
use Rattle.optra_prices.specs.declared.numbering.Groups.{Groups}
use Rattle.optra_prices.specs.declared.touch.Touch.{Touch}
use Rattle.optra_prices.proofs.TellingLemmas.{used_none, used_on}
use Rattle.optra_prices.proofs.telling.mark_claims.Goals as goal

pub loop-claim-init : goal.loop-claim-init
loop-claim-init c = record { columns = c.requires; marks = used_none (claim_uses []) c.args.columns.now (λ n. refl) }

pub loop-claim-preserved : goal.loop-claim-preserved
loop-claim-preserved c =
    let claims = c.args.claims.now in
    let k = c.loop-claim.claim-index in
    let inv = c.loop-claim.invariant in
    let old = c.args.columns.now in
    let mid = c.loop-claim.columns in
    let new = c.mark_touches.new.columns in
    let marked = c.in_ok-mark_touches.ensures in
    let claim = c.claim-item.result in
    let used = λ (n : ℕ) (x : Claim). touch_uses x.touches.items n in
    let more = subst (λ (touches : List Touch). MarksUsed (touch_uses touches) mid new) c.claimed.ensures marked.marks in
    let sum = λ (n : ℕ). sum_by_more (used n) claims k claim c.loop-claim-test.true ∙ sym (ap (λ (x : Claim). claim_uses (take k claims) n + used n x) c.claim-item.is) in
    record {
      columns = subst (λ (groups : Groups). IsColumns groups new) inv.columns.groups_are marked.columns;
      marks = used_on (claim_uses (take k claims)) (touch_uses claim.touches.items) (claim_uses (take (k + 1) claims)) old mid new inv.marks more sum;
    }
