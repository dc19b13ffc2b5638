-- The least raise is an amount, so the sum fits.
use Rattle.std.proofs.Common.{◌≡◌, ap, rules, arith, w64, sym, subst}
use Rattle.std.proofs.lemmas.Int.{ints, to_z-of_z}
use Rattle.std.specs.Prelude.{ℤ, ◌+ℤ◌, int_lt}
use Rattle.std.specs.Int.RustNames.{FitsSigned}
use Rattle.optra_auction.specs.Machine.{IsAmount, least_raise_of}
use Rattle.optra_auction.proofs.MachineLemmas.{IsAmount-least_raise_of, IsAmount-share_of}
use Rattle.optra_auction.proofs.terms.Terms.is_below_raise.Goals as goal

pub returns : goal.returns
returns c =
    let own : FitsSigned w64 c.args.self.now.amount = search rules in
    let other : FitsSigned w64 c.args.amount = search rules in
    let least : c.least_raise-raise.result ≡ least_raise_of c.args.rules c.args.self.now.amount = simp to_z-of_z at c.least_raise-raise.ensures in
    let range = subst IsAmount (sym least) (IsAmount-least_raise_of c.args.rules c.args.self.now.amount c.requires.rules (IsAmount-share_of c.args.self.now.amount c.args.rules.permille c.requires.amount c.requires.rules.permille)) in
    let raise : FitsSigned w64 c.least_raise-raise.result = search rules in
    let low = range.0 in
    let high = range.1 in
    let from = c.requires.amount.0 in
    let to = c.requires.amount.1 in
    let sum : FitsSigned w64 (c.args.self.now.amount +ℤ c.least_raise-raise.result) = omega (arith, ints) in
    simp to_z-of_z (ap (λ (z : ℤ). int_lt c.args.amount (c.args.self.now.amount +ℤ z)) least)
