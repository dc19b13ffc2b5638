-- Prices in 32 bits.
use Rattle.std.proofs.Common.{◌≡◌, ℕ, zero, suc, List, ◌∷◌, replicate, refl, ap}
use Rattle.std.specs.Prelude.{ℤ, pos}
use Rattle.optra_prices.specs.RowPrices.{prices_of}

pub prices_zero : (n : ℕ) → prices_of (replicate n 0) ≡ replicate n (pos 0)
prices_zero zero = refl
prices_zero (suc n) = ap (λ (zs : List ℤ). pos 0 ∷ zs) (prices_zero n)
