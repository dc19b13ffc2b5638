use Rattle.std.proofs.Common.{◌∙◌, ℕ, List, length, ap, arith}
use Rattle.std.specs.Prelude.{slice_index}
use Rattle.std.proofs.lemmas.List.{length-replicate}
use Rattle.optra_prices.proofs.LevelLemmas.{less_levels, none_at}
use Rattle.optra_prices.proofs.levels.forget_uses.Goals as goal

pub returns-clause-levels : goal.returns-clause-levels
returns-clause-levels c =
    let old = c.args.levels.now in
    let count = length old.loads.uses in
    less_levels old c.clear.new.self c.requires (ap length c.clear.ensures.uses ∙ length-replicate count 0) c.clear.ensures.capacities
    (λ n. let e = ap (λ (xs : List ℕ). slice_index xs n) c.clear.ensures.uses ∙ none_at count n in omega arith)

pub returns-clause-unused : goal.returns-clause-unused
returns-clause-unused c = λ n. ap (λ (xs : List ℕ). slice_index xs n) c.clear.ensures.uses ∙ none_at (length c.args.levels.now.loads.uses) n
