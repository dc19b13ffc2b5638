use Rattle.std.proofs.Common.{◌∙◌, ap, rules, w64}
use Rattle.std.specs.Prelude.{pos, ◌*ℤ◌, FitsSigned}
use Rattle.std.specs.Int.{w128}
use Rattle.std.proofs.lemmas.Int.{to_z-of_z}
use Rattle.optra_checker.proofs.best_walk.worth.Goals as goal

pub returns : goal.returns
returns c =
    let fits : FitsSigned w64 c.value.result = search rules in
    let big : FitsSigned w128 c.thousandths.result = search rules in
    to_z-of_z w128 c.thousandths.result big ∙ c.thousandths.ensures ∙ ap (λ z. pos 1000 *ℤ z) (to_z-of_z w64 c.value.result fits ∙ c.value.ensures.value)
