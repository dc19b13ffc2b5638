-- Up to 18 digits fit.
use Rattle.std.proofs.Common.{◌≡◌, ◌<◌, ◌≤◌, ◌^◌, ℕ, length, subst, arith}
use Rattle.optra_records.proofs.PowerLemmas.{power_most}
use Rattle.optra_records.proofs.numbers.digits.Goals as goal

pub overflow_mul-n : goal.overflow_mul-n
overflow_mul-n c =
    let few = c.requires.few in
    let more = c.digits-test.true in
    let most : 10 ^ c.digits.b-index ≤ 10 ^ 17 = power_most c.digits.b-index 17 (omega arith) in
    let small = c.digits.invariant.small in
    omega (arith, most, small)

pub overflow_add-n : goal.overflow_add-n
overflow_add-n c =
    let few = c.requires.few in
    let more = c.digits-test.true in
    let most : 10 ^ c.digits.b-index ≤ 10 ^ 17 = power_most c.digits.b-index 17 (omega arith) in
    let small = c.digits.invariant.small in
    let is = c.from.ensures in
    let byte = c.type_inv.text c.digits.b-index in
    omega (arith, most, small, is, byte)

pub returns-clause-small : goal.returns-clause-small
returns-clause-small c =
    let P : ℕ → Type 0 = λ i. c.digits.n < 10 ^ i in
    let end : c.digits.b-index ≡ length c.args.text.now = omega arith in
    subst P end c.digits.invariant.small
