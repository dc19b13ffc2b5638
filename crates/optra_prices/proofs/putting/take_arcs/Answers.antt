use Rattle.std.proofs.Common.{List, ◌∙◌, subst}
use Rattle.optra_prices.specs.Uses.{TakesUses, touch_uses}
use Rattle.optra_prices.specs.declared.touch.Touch.{Touch}
use Rattle.optra_prices.proofs.UseLemmas.{takes_on, path_more}
use Rattle.optra_prices.proofs.putting.take_arcs.Goals as goal

pub loop-k-preserved : goal.loop-k-preserved
loop-k-preserved c =
    let inv = c.loop-k.invariant in
    let is = c.take_touches.ensures in
    let mid = c.loop-k.room.loads.uses in
    let new = c.take_touches.new.room.loads.uses in
    let less = subst (λ (touches : List Touch). TakesUses (touch_uses touches) mid new) c.arc_touches.ensures is.uses in
    record {
      uses = takes_on c.args.room.now.loads.uses mid new _ _ _ (λ n. path_more c.args.groups.now c.args.table.now c.args.path.now c.loop-k.k-index 0 n c.loop-k-test.true) inv.uses less;
      capacities = is.capacities ∙ inv.capacities;
    }
