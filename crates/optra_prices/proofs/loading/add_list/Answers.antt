use Rattle.std.proofs.Common.{List, ◌∙◌, subst}
use Rattle.optra_prices.specs.Uses.{AddsUses, touch_uses}
use Rattle.optra_prices.specs.declared.touch.Touch.{Touch}
use Rattle.optra_prices.proofs.UseLemmas.{adds_on, list_more}
use Rattle.optra_prices.proofs.loading.add_list.Goals as goal

pub loop-g-preserved : goal.loop-g-preserved
loop-g-preserved c =
    let inv = c.loop-g.invariant in
    let is = c.in_ok-add_group.ensures in
    let mid = c.loop-g.levels.loads.uses in
    let new = c.add_group.new.levels.loads.uses in
    let more = subst (λ (touches : List Touch). AddsUses (touch_uses touches) mid new) c.touches_at.ensures is.uses in
    record {
      levels = is.levels;
      uses = adds_on c.args.levels.now.loads.uses mid new _ _ _ (λ n. list_more c.args.groups.now c.args.list.now c.loop-g.g-index 0 n c.loop-g-test.true) inv.uses more;
      prices = record { prices = is.prices.prices ∙ inv.prices.prices; capacities = is.prices.capacities ∙ inv.prices.capacities };
    }
