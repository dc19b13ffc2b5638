use Rattle.std.proofs.Common.{◌+◌, ℕ, List, take, ◌∙◌, sym, subst}
use Rattle.std.proofs.lemmas.List.Sums.{sum_by_more}
use Rattle.optra_prices.specs.Claims.{placed_uses, touches_at}
use Rattle.optra_prices.specs.Uses.{TakesUses, touch_uses}
use Rattle.optra_prices.specs.declared.touch.Touch.{Touch}
use Rattle.optra_prices.proofs.UseLemmas.{takes_on}
use Rattle.optra_prices.proofs.claims.take_placed.Goals as goal

pub loop-place-preserved : goal.loop-place-preserved
loop-place-preserved c =
    let inv = c.loop-place.invariant in
    let is = c.take_touches.ensures in
    let claims = c.args.claims.now in
    let places = c.args.places.now in
    let k = c.loop-place.place-index in
    let old = c.args.room.now.loads.uses in
    let mid = c.loop-place.room.loads.uses in
    let new = c.take_touches.new.room.loads.uses in
    let more = subst (λ (touches : List Touch). TakesUses (touch_uses touches) mid new) c.touches_at.ensures is.uses in
    let sum = λ (n : ℕ). sym (sum_by_more (λ (p : ℕ). touch_uses (touches_at claims p) n) places k 0 c.loop-place-test.true) in
    record {
      uses = takes_on old mid new (placed_uses claims (take k places)) _ (placed_uses claims (take (k + 1) places)) sum inv.uses more;
      capacities = is.capacities ∙ inv.capacities;
    }
