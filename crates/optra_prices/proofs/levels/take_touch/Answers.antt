use Rattle.std.proofs.Common.{◌-◌, ◌≤◌, ℕ, List, length, sym, ap, ◌∙◌, subst, arith}
use Rattle.std.specs.Prelude.{slice_index}
use Rattle.std.proofs.lemmas.List.{length-set}
use Rattle.optra_prices.specs.Levels.{use_of}
use Rattle.optra_prices.proofs.LevelLemmas.{less_levels, less_set}
use Rattle.optra_prices.proofs.UseLemmas.{touch_takes}
use Rattle.optra_prices.proofs.levels.take_touch.Goals as goal

pub returns-clause-levels : goal.returns-clause-levels
returns-clause-levels c =
    let old = c.args.levels.now in
    let row = c.args.touch.row in
    let left = slice_index old.loads.uses row - c.args.touch.uses in
    less_levels old c.take.new.self c.requires (ap length c.take.ensures.uses_are ∙ length-set old.loads.uses row left) c.take.ensures.capacities
    (λ n. subst (λ (xs : List ℕ). slice_index xs n ≤ use_of old n) (sym c.take.ensures.uses_are) (less_set old.loads.uses row left n (omega arith)))

pub returns-clause-uses : goal.returns-clause-uses
returns-clause-uses c = touch_takes c.args.touch c.args.levels.now.loads.uses c.take.new.self.uses c.take.ensures.uses_are
