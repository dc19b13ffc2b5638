use Rattle.std.proofs.Common.{◌+◌, ◌*◌, ap, ◌∙◌, rules, arith}
use Rattle.std.specs.Prelude.{ℤ, pos, ◌*ℤ◌, FitsSigned}
use Rattle.std.specs.Int.{w64, int_max, int_div_euclid}
use Rattle.std.proofs.lemmas.Int.{ints, to_z-of_z}
use Rattle.optra_prices.proofs.StepLemmas.{length_within}
use Rattle.optra_prices.proofs.next_prices.step_length.Goals as goal

pub returns-clause-value : goal.returns-clause-value
returns-clause-value c =
    let fits : FitsSigned w64 c.greatest_base-most.result = search rules in
    let whole : FitsSigned w64 c.length_by.result = search rules in
    let length = λ (z : ℤ). int_max (pos 1) (int_div_euclid (z *ℤ pos 1000) (pos (4 * (c.args.k + 1)))) in
    to_z-of_z w64 c.length_by.result whole ∙ c.length_by.ensures ∙ ap length (to_z-of_z w64 c.greatest_base-most.result fits ∙ c.greatest_base-most.ensures.value)

pub returns-clause-range : goal.returns-clause-range
returns-clause-range c =
    let fits : FitsSigned w64 c.greatest_base-most.result = search rules in
    let whole : FitsSigned w64 c.length_by.result = search rules in
    let length = λ (z : ℤ). int_max (pos 1) (int_div_euclid (z *ℤ pos 1000) (pos (4 * (c.args.k + 1)))) in
    let is = c.length_by.ensures ∙ ap length (to_z-of_z w64 c.greatest_base-most.result fits) in
    let within = length_within c.greatest_base-most.result (4 * (c.args.k + 1)) c.greatest_base-most.ensures.range in
    let low = within.0 in
    let high = within.1 in
    (omega (arith, ints), omega (arith, ints))
