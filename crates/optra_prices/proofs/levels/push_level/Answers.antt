use Rattle.std.proofs.Common.{◌∷◌, [], ◌∙◌, ℕ, List, length, refl, ap}
use Rattle.std.specs.Prelude.{slice_index}
use Rattle.std.proofs.lemmas.List.{length-append}
use Rattle.optra_prices.proofs.LevelLemmas.{pushed_levels, push_unused}
use Rattle.optra_prices.proofs.levels.push_level.Goals as goal

pub returns-clause-levels : goal.returns-clause-levels
returns-clause-levels c =
    let old = c.args.levels.now in
    let uses = c.in_ok-push.ensures.uses in
    pushed_levels old _ c.args.capacity c.requires.levels (λ n. ap (λ (us : List ℕ). slice_index us n) uses ∙ push_unused old.loads.uses n (c.requires.unused n)) c.requires.small c.in_ok-push_zero.ensures c.in_ok-push.ensures.capacities
    (ap length uses ∙ length-append old.loads.uses (0 ∷ [])) refl c.in_ok-push-2.ensures.items refl

pub returns-clause-unused : goal.returns-clause-unused
returns-clause-unused c = λ n. ap (λ (us : List ℕ). slice_index us n) c.in_ok-push.ensures.uses ∙ push_unused c.args.levels.now.loads.uses n (c.requires.unused n)
