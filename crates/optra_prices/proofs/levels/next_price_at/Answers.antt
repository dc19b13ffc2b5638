use Rattle.std.proofs.Common.{ℕ, ap, ◌∙◌, rules, to_z, of_z}
use Rattle.std.specs.Prelude.{ℤ, FitsSigned}
use Rattle.std.specs.Int.{w64}
use Rattle.std.proofs.lemmas.Int.{to_z-of_z}
use Rattle.optra_prices.specs.Levels.{price_of, use_of}
use Rattle.optra_prices.specs.Steps.{next_price}
use Rattle.optra_prices.proofs.levels.next_price_at.Goals as goal

pub returns-clause-value : goal.returns-clause-value
returns-clause-value c =
    let levels = c.args.levels.now in
    let number = c.args.number in
    let by = c.args.by in
    let used = use_of levels number in
    let capacity = c.capacity.result in
    let f1 : FitsSigned w64 by = search rules in
    let f2 : FitsSigned w64 c.next_price.result = search rules in
    let f3 : FitsSigned w64 c.at.result = search rules in
    let price_is = to_z-of_z w64 c.at.result f3 ∙ c.at.ensures in
    let capacity_is = c.capacity.ensures in
    to_z-of_z w64 c.next_price.result f2 ∙ c.next_price.ensures.value
    ∙ ap (λ (z : ℤ). next_price z (to_z w64 (of_z w64 c.at.result)) c.used.result capacity) (to_z-of_z w64 by f1)
    ∙ ap (λ (z : ℤ). next_price by z c.used.result capacity) price_is
    ∙ ap (λ (u : ℕ). next_price by (price_of levels number) u capacity) c.used.ensures
    ∙ ap (λ (m : ℕ). next_price by (price_of levels number) used m) capacity_is
