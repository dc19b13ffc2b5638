use Rattle.std.proofs.Common.{◌+◌, ◌<◌, ◌≤◌, ◌⊎◌, ℕ, List, length, sym, subst, arith}
use Rattle.std.specs.Prelude.{Contains, slice_index}
use Rattle.std.proofs.lemmas.Result.{on_ok_weaker}
use Rattle.optra_prices.specs.Levels.{capacity_of}
use Rattle.optra_prices.specs.Uses.{AddsUses, touch_use}
use Rattle.optra_prices.proofs.LevelLemmas.{used_levels}
use Rattle.optra_prices.proofs.UseLemmas.{touch_adds}
use Rattle.optra_prices.proofs.levels.add_any.Goals as goal

pub returns-clause-levels : goal.returns-clause-levels
returns-clause-levels c =
    let woken = c.wake_above.new.levels in
    let wakes = c.in_ok-wake_above.ensures.wakes in
    let row = c.args.touch.row in
    let uses = c.args.touch.uses in
    let within : row < length c.args.levels.now.prices.items = grind (arith, c.len.ensures, c.requires.use_count) in
    on_ok_weaker c.add.result
    (λ is. used_levels woken c.add.new.self row (slice_index woken.loads.uses row + uses) c.in_ok-wake_above.ensures.levels (subst (λ v. row < length v.items) (sym wakes.prices) within) is
    (λ idle. subst (λ (us : List ℕ). (slice_index us row + uses ≤ capacity_of woken row) ⊎ Contains woken.active.items row) (sym wakes.uses_are) wakes.here)) c.add.ensures

pub returns-clause-uses : goal.returns-clause-uses
returns-clause-uses c =
    let touch = c.args.touch in
    on_ok_weaker c.add.result (λ is. subst (λ (us : List ℕ). AddsUses (touch_use touch) us c.add.new.self.uses) c.in_ok-wake_above.ensures.wakes.uses_are (touch_adds touch c.wake_above.new.levels.loads.uses c.add.new.self.uses is.uses_are)) c.add.ensures
