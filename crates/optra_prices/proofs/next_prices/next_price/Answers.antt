use Rattle.std.proofs.Common.{◌≡◌, ℕ, ◌-◌, ◌*◌, ◌≤◌, min, ap, ◌∙◌, rules, arith}
use Rattle.std.specs.Prelude.{ℤ, pos, negsuc, unsigned_abs, ◌+ℤ◌, ◌-ℤ◌, ◌≤ℤ◌, FitsSigned}
use Rattle.std.specs.Int.{w64, saturate_signed}
use Rattle.std.proofs.lemmas.Int.{ints, to_z-of_z}
use Rattle.optra_prices.specs.Steps.{price_within}
use Rattle.optra_prices.proofs.StepLemmas.{risen, fallen}
use Rattle.optra_prices.proofs.next_prices.next_price.Goals as goal

pub returns-then-used-room-clause-value : goal.returns-then-used-room-clause-value
returns-then-used-room-clause-value c =
    let by = c.args.length in
    let price = c.args.price in
    let used = c.args.used in
    let f1 : FitsSigned w64 c.price_within.result = search rules in
    let f2 : FitsSigned w64 c.saturating_add_unsigned.result = search rules in
    let f3 : FitsSigned w64 by = search rules in
    let f4 : FitsSigned w64 price = search rules in
    let room = c.from-room.ensures in
    let one = c.requires.0 in
    let low : negsuc 9223372036854775807 ≤ℤ price = omega (arith, ints) in
    let more : c.args.capacity ≤ used = omega arith in
    let way : c.way.result ≡ min (unsigned_abs by * (used - c.args.capacity)) 18446744073709551615 = c.way.ensures ∙ ap (λ (z : ℤ). min (unsigned_abs z * (used - c.from-room.result)) 18446744073709551615) (to_z-of_z w64 by f3) ∙ ap (λ (r : ℕ). min (unsigned_abs by * (used - r)) 18446744073709551615) room in
    let next = to_z-of_z w64 c.saturating_add_unsigned.result f2 ∙ c.saturating_add_unsigned.ensures ∙ ap (λ (z : ℤ). saturate_signed w64 (z +ℤ pos c.way.result)) (to_z-of_z w64 price f4) ∙ ap (λ (n : ℕ). saturate_signed w64 (price +ℤ pos n)) way in
    to_z-of_z w64 c.price_within.result f1 ∙ c.price_within.ensures.value ∙ ap price_within next ∙ risen by price used c.args.capacity one low more

pub returns-else-used-room-clause-value : goal.returns-else-used-room-clause-value
returns-else-used-room-clause-value c =
    let by = c.args.length in
    let price = c.args.price in
    let used = c.args.used in
    let f1 : FitsSigned w64 c.price_within-else-used-room.result = search rules in
    let f2 : FitsSigned w64 c.saturating_sub_unsigned.result = search rules in
    let f3 : FitsSigned w64 by = search rules in
    let f4 : FitsSigned w64 price = search rules in
    let room = c.from-room.ensures in
    let one = c.requires.0 in
    let high : price ≤ℤ pos 9223372036854775807 = omega (arith, ints) in
    let few : used ≤ c.args.capacity = omega arith in
    let way : c.way-else-used-room.result ≡ min (unsigned_abs by * (c.args.capacity - used)) 18446744073709551615 = c.way-else-used-room.ensures ∙ ap (λ (z : ℤ). min (unsigned_abs z * (c.from-room.result - used)) 18446744073709551615) (to_z-of_z w64 by f3) ∙ ap (λ (r : ℕ). min (unsigned_abs by * (r - used)) 18446744073709551615) room in
    let next = to_z-of_z w64 c.saturating_sub_unsigned.result f2 ∙ c.saturating_sub_unsigned.ensures ∙ ap (λ (z : ℤ). saturate_signed w64 (z -ℤ pos c.way-else-used-room.result)) (to_z-of_z w64 price f4) ∙ ap (λ (n : ℕ). saturate_signed w64 (price -ℤ pos n)) way in
    to_z-of_z w64 c.price_within-else-used-room.result f1 ∙ c.price_within-else-used-room.ensures.value ∙ ap price_within next ∙ fallen by price used c.args.capacity one high few
