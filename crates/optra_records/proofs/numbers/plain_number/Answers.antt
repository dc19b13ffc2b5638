-- Up to 18 digits write a number below 10^18.
use Rattle.std.proofs.Common.{◌≡◌, ◌≤◌, ◌^◌, length, arith, sym, ◌∙◌, true}
use Rattle.std.proofs.lemmas.Bool.{and_parts, leb-true}
use Rattle.optra_records.specs.Numbers.{is_plain_number}
use Rattle.optra_records.proofs.PowerLemmas.{power_most}
use Rattle.optra_records.proofs.numbers.plain_number.Goals as goal

pub returns-then-is_plain_number-clause-small : goal.returns-then-is_plain_number-clause-small
returns-then-is_plain_number-clause-small c =
    let is : is_plain_number c.args.text.now ≡ true = sym c.is_plain_number.ensures ∙ c.if-is_plain_number.true in
    let few : length c.args.text.now ≤ 18 = leb-true _ _ (and_parts _ _ (and_parts _ _ (and_parts _ _ is).0).0).1 in
    let most : 10 ^ length c.args.text.now ≤ 10 ^ 18 = power_most (length c.args.text.now) 18 few in
    let small = c.digits.ensures.small in
    omega (arith, most, small)
