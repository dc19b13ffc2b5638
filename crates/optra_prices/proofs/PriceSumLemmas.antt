-- A price of a row times what is used of it, within its bounds.
use Rattle.std.proofs.Common.{ℕ, ◌*◌, ◌≤◌, sym, subst, arith}
use Rattle.std.specs.Prelude.{ℤ, pos, negsuc, ◌*ℤ◌}
use Rattle.std.proofs.lemmas.Int.{ints}
use Rattle.std.proofs.lemmas.Nat.{mul-le}
use Rattle.std.proofs.Math.IntN.{pos-*ℤ-pos}
use Rattle.optra_bid.specs.Specs.{IsBetween}
use Rattle.optra_prices.specs.Tables.{IsRowPrice}

pub product_within : (price : ℤ) (uses : ℕ) → IsRowPrice price → IsBetween (pos 0) (pos (2000000000000 * uses)) (price *ℤ pos uses)
product_within (pos p) uses h =
    let top : p ≤ 2000000000000 = let u = h.1 in omega (arith, ints) in
    let product : p * uses ≤ 2000000000000 * uses = mul-le p uses 2000000000000 uses top (omega arith) in
    subst (IsBetween (pos 0) (pos (2000000000000 * uses))) (sym (pos-*ℤ-pos p uses)) (omega (arith, ints), omega (arith, ints))
product_within (negsuc p) uses h = absurd (let low = h.0 in omega (arith, ints))
