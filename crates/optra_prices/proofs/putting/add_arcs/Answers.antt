use Rattle.std.proofs.Common.{List, ◌∙◌, subst}
use Rattle.optra_prices.specs.Uses.{AddsUses, touch_uses}
use Rattle.optra_prices.specs.declared.touch.Touch.{Touch}
use Rattle.optra_prices.proofs.UseLemmas.{adds_on, path_more}
use Rattle.optra_prices.proofs.putting.add_arcs.Goals as goal

pub loop-k-preserved : goal.loop-k-preserved
loop-k-preserved c =
    let inv = c.loop-k.invariant in
    let is = c.in_ok-add_touches.ensures in
    let mid = c.loop-k.room.loads.uses in
    let new = c.add_touches.new.room.loads.uses in
    let more = subst (λ (touches : List Touch). AddsUses (touch_uses touches) mid new) c.arc_touches.ensures is.uses in
    record {
      uses = adds_on c.args.room.now.loads.uses mid new _ _ _ (λ n. path_more c.args.groups.now c.args.table.now c.args.path.now c.loop-k.k-index 0 n c.loop-k-test.true) inv.uses more;
      capacities = is.capacities ∙ inv.capacities;
    }
