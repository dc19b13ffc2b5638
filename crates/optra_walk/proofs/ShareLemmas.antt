-- Shares within their ranges, as they are in numbers of so many bits.
use Rattle.std.proofs.Common.{◌≡◌, ℕ, ◌*◌, ◌<◌, ◌≤◌, sym, ap, ◌∙◌, subst, arith, w64, to_z, of_z}
use Rattle.std.specs.Prelude.{ℤ, pos, negsuc, ◌+ℤ◌, ◌*ℤ◌, ◌≤ℤ◌, FitsSigned}
use Rattle.std.proofs.Math.Nat.{mul-le-mul_left}
use Rattle.std.proofs.lemmas.Int.{ints, to_z-of_z}
use Rattle.optra_bid.specs.Specs.{IsRate}
use Rattle.optra_walk.specs.Shares.{IsAddedCents, IsTakenCents, IsOffPrice, IsTimePrice}

product_within : (most : ℕ) (z : ℤ) (n : ℕ) → pos 0 ≤ℤ z → z ≤ℤ pos most → (pos 0 ≤ℤ (z *ℤ pos n)) × ((z *ℤ pos n) ≤ℤ pos (most * n))
product_within most (pos p) n low high = let h : p ≤ most = omega (arith, ints) in let m = mul-le-mul_left n h in (omega (arith, ints), omega (arith, ints))
product_within most (negsuc p) n low high = absurd (omega (arith, ints))

-- a number that fits is itself again
pub rate_same : (z : ℤ) → IsRate z → to_z w64 (of_z w64 z) ≡ z
rate_same z range = let a = range.0 in let b = range.1 in let fits : FitsSigned w64 z = omega (arith, ints) in to_z-of_z w64 z fits

pub time_same : (z : ℤ) → IsTimePrice z → to_z w64 (of_z w64 z) ≡ z
time_same z range = let a = range.0 in let b = range.1 in let fits : FitsSigned w64 z = omega (arith, ints) in to_z-of_z w64 z fits

pub added_cents_same : (z : ℤ) → IsAddedCents z → to_z w64 (of_z w64 z) ≡ z
added_cents_same z range = let a = range.0 in let b = range.1 in let fits : FitsSigned w64 z = omega (arith, ints) in to_z-of_z w64 z fits

pub rate_kept : (z : ℤ) → IsRate z → IsRate (to_z w64 (of_z w64 z))
rate_kept z range = subst IsRate (sym (rate_same z range)) range

pub taken_cents_same : (z : ℤ) → IsTakenCents z → to_z w64 (of_z w64 z) ≡ z
taken_cents_same z range = let a = range.0 in let b = range.1 in let fits : FitsSigned w64 z = omega (arith, ints) in to_z-of_z w64 z fits

-- ---- a rate times minutes
module _ (rate x : ℤ) (n : ℕ) (range : IsRate rate) (few : n < 131072) (is : x ≡ pos n) where
  minutes_same : to_z w64 (of_z w64 x) ≡ pos n
  minutes_same = let fits : FitsSigned w64 x = omega (arith, ints) in to_z-of_z w64 x fits ∙ is

  factors : to_z w64 (of_z w64 rate) *ℤ to_z w64 (of_z w64 x) ≡ rate *ℤ pos n
  factors = λ i. rate_same rate range i *ℤ minutes_same i

  times_within : IsTimePrice (rate *ℤ pos n)
  times_within = let w = product_within 1000000 rate n range.0 range.1 in let a = w.0 in let b = w.1 in (a, omega (arith, ints))

  times_fit : FitsSigned w64 (rate *ℤ pos n)
  times_fit = let a = times_within.0 in let b = times_within.1 in omega (arith, ints)

  pub rate_times_fit : FitsSigned w64 (to_z w64 (of_z w64 rate) *ℤ to_z w64 (of_z w64 x))
  rate_times_fit = subst (λ (z : ℤ). FitsSigned w64 z) (sym factors) times_fit

  pub rate_times_value : to_z w64 (of_z w64 (to_z w64 (of_z w64 rate) *ℤ to_z w64 (of_z w64 x))) ≡ rate *ℤ pos n
  rate_times_value = ap (λ (z : ℤ). to_z w64 (of_z w64 z)) factors ∙ to_z-of_z w64 (rate *ℤ pos n) times_fit

  pub rate_times_range : IsTimePrice (to_z w64 (of_z w64 (to_z w64 (of_z w64 rate) *ℤ to_z w64 (of_z w64 x))))
  rate_times_range = subst IsTimePrice (sym rate_times_value) times_within

-- ---- the sum of two of these
module _ (x y : ℤ) (x_range : IsTimePrice x) (y_range : IsTimePrice y) where
  summands : to_z w64 (of_z w64 x) +ℤ to_z w64 (of_z w64 y) ≡ x +ℤ y
  summands = λ i. time_same x x_range i +ℤ time_same y y_range i

  sum_within : IsOffPrice (x +ℤ y)
  sum_within = let a = x_range.0 in let b = x_range.1 in let c = y_range.0 in let d = y_range.1 in (omega (arith, ints), omega (arith, ints))

  sum_fits : FitsSigned w64 (x +ℤ y)
  sum_fits = let a = sum_within.0 in let b = sum_within.1 in omega (arith, ints)

  pub times_sum_fits : FitsSigned w64 (to_z w64 (of_z w64 x) +ℤ to_z w64 (of_z w64 y))
  times_sum_fits = subst (λ (z : ℤ). FitsSigned w64 z) (sym summands) sum_fits

  pub times_sum_value : to_z w64 (of_z w64 (to_z w64 (of_z w64 x) +ℤ to_z w64 (of_z w64 y))) ≡ x +ℤ y
  times_sum_value = ap (λ (z : ℤ). to_z w64 (of_z w64 z)) summands ∙ to_z-of_z w64 (x +ℤ y) sum_fits

  pub times_sum_range : IsOffPrice (to_z w64 (of_z w64 (to_z w64 (of_z w64 x) +ℤ to_z w64 (of_z w64 y))))
  times_sum_range = subst IsOffPrice (sym times_sum_value) sum_within
