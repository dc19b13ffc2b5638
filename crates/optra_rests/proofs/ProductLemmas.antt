-- Products of a price and a count, as they are in numbers of so many bits.
use Rattle.std.proofs.Common.{◌≡◌, ℕ, ◌+◌, ◌*◌, ◌<◌, ◌≤◌, sym, ap, ◌∙◌, subst, arith, w64, to_z, of_z}
use Rattle.std.specs.Prelude.{ℤ, pos, negsuc, ◌+ℤ◌, ◌*ℤ◌, ◌≤ℤ◌, FitsSigned}
use Rattle.std.specs.Int.{w128}
use Rattle.std.proofs.Math.Nat.{mul-le-mul_left}
use Rattle.std.proofs.lemmas.Int.{ints, to_z-of_z}
use Rattle.optra_bid.specs.Specs.{IsBetween}
use Rattle.optra_walk.specs.Shares.{IsAdded}
use Rattle.optra_rests.specs.Sizes.{IsRowPrice, IsLegPrice, IsWholeRest, IsCapacityPrice}

-- a product lies within the bounds of its factors
pub product_within : (most : ℕ) (z : ℤ) (n : ℕ) → pos 0 ≤ℤ z → z ≤ℤ pos most → (pos 0 ≤ℤ (z *ℤ pos n)) × ((z *ℤ pos n) ≤ℤ pos (most * n))
product_within most (pos p) n low high = let h : p ≤ most = omega (arith, ints) in let m = mul-le-mul_left n h in (omega (arith, ints), omega (arith, ints))
product_within most (negsuc p) n low high = absurd (omega (arith, ints))

-- a number that fits is itself again
pub row_price_same : (z : ℤ) → IsRowPrice z → to_z w64 (of_z w64 z) ≡ z
row_price_same z range = let a = range.0 in let b = range.1 in let fits : FitsSigned w64 z = omega (arith, ints) in to_z-of_z w64 z fits

pub leg_price_same : (z : ℤ) → IsLegPrice z → to_z w128 (of_z w128 z) ≡ z
leg_price_same z range = let a = range.0 in let b = range.1 in let fits : FitsSigned w128 z = omega (arith, ints) in to_z-of_z w128 z fits

-- the price of a leg is no more than a leg may cost
pub price_is_cost : (z : ℤ) → IsLegPrice z → IsBetween (pos 0) (pos 1152921504606846976) (to_z w128 (of_z w128 z))
price_is_cost z range = let a = range.0 in let b = range.1 in subst (IsBetween (pos 0) (pos 1152921504606846976)) (sym (leg_price_same z range)) (omega (arith, ints), omega (arith, ints))

pub capacity_price_same : (z : ℤ) → IsCapacityPrice z → to_z w128 (of_z w128 z) ≡ z
capacity_price_same z range = let a = range.0 in let b = range.1 in let fits : FitsSigned w128 z = omega (arith, ints) in to_z-of_z w128 z fits

pub start_value_same : (z : ℤ) → IsAdded z → to_z w64 (of_z w64 z) ≡ z
start_value_same z range = let a = range.0 in let b = range.1 in let fits : FitsSigned w64 z = omega (arith, ints) in to_z-of_z w64 z fits

pub whole_rest_same : (z : ℤ) → IsWholeRest z → to_z w128 (of_z w128 z) ≡ z
whole_rest_same z range = let a = range.0 in let b = range.1 in let fits : FitsSigned w128 z = omega (arith, ints) in to_z-of_z w128 z fits

-- a start and a rest together
pub whole_same : (start rest sum : ℤ) → IsAdded start → IsWholeRest rest → sum ≡ to_z w64 (of_z w64 start) +ℤ to_z w128 (of_z w128 rest) → to_z w128 (of_z w128 sum) ≡ start +ℤ rest
whole_same start rest sum s r is =
    let e : sum ≡ start +ℤ rest = is ∙ (λ i. start_value_same start s i +ℤ whole_rest_same rest r i) in
    let a = s.0 in
    let b = s.1 in
    let c = r.0 in
    let d = r.1 in
    let fits : FitsSigned w128 sum = omega (arith, ints) in
    to_z-of_z w128 sum fits ∙ e

-- ---- a price of a row times a count
module _ (price x y : ℤ) (n : ℕ) (range : IsRowPrice price) (few : n < 4294967296) (x_is : x ≡ to_z w64 (of_z w64 price)) (y_is : y ≡ pos n) where
  price_same : to_z w128 (of_z w128 x) ≡ price
  price_same =
      let same : x ≡ price = x_is ∙ row_price_same price range in
      let a = range.0 in
      let b = range.1 in
      let fits : FitsSigned w128 x = omega (arith, ints) in
      to_z-of_z w128 x fits ∙ same

  count_same : to_z w128 (of_z w128 y) ≡ pos n
  count_same = let fits : FitsSigned w128 y = omega (arith, ints) in to_z-of_z w128 y fits ∙ y_is

  price_factors : to_z w128 (of_z w128 x) *ℤ to_z w128 (of_z w128 y) ≡ price *ℤ pos n
  price_factors = λ i. price_same i *ℤ count_same i

  price_fits : FitsSigned w128 (price *ℤ pos n)
  price_fits = let w = product_within 2000000000000 price n range.0 range.1 in let a = w.0 in let b = w.1 in omega (arith, ints)

  pub price_times_fit : FitsSigned w128 (to_z w128 (of_z w128 x) *ℤ to_z w128 (of_z w128 y))
  price_times_fit = subst (λ (z : ℤ). FitsSigned w128 z) (sym price_factors) price_fits

  pub price_times_value : to_z w128 (of_z w128 (to_z w128 (of_z w128 x) *ℤ to_z w128 (of_z w128 y))) ≡ price *ℤ pos n
  price_times_value = ap (λ (z : ℤ). to_z w128 (of_z w128 z)) price_factors ∙ to_z-of_z w128 (price *ℤ pos n) price_fits

-- ---- a total with a price times a count more
module _ (price : ℤ) (n before : ℕ) (old total product : ℤ) (range : IsRowPrice price) (is : product ≡ to_z w64 (of_z w64 price) *ℤ pos n) (same : old ≡ total)
    (least : pos 0 ≤ℤ total) (most : total ≤ℤ pos (2000000000000 * before)) (few : before + n ≤ 1208925819614629174706176) where
  pub product_is : product ≡ price *ℤ pos n
  product_is = is ∙ (λ i. row_price_same price range i *ℤ pos n)

  product_bounds : (pos 0 ≤ℤ product) × (product ≤ℤ pos (2000000000000 * n))
  product_bounds = subst (λ (z : ℤ). (pos 0 ≤ℤ z) × (z ≤ℤ pos (2000000000000 * n))) (sym product_is) (product_within 2000000000000 price n range.0 range.1)

  pub more_least : pos 0 ≤ℤ (total +ℤ product)
  more_least = let a = product_bounds.0 in omega (arith, ints)

  pub more_most : (total +ℤ product) ≤ℤ pos (2000000000000 * (before + n))
  more_most = let a = product_bounds.1 in omega (arith, ints)

  product_same : to_z w128 (of_z w128 product) ≡ product
  product_same = let a = product_bounds.0 in let b = product_bounds.1 in let fits : FitsSigned w128 product = omega (arith, ints) in to_z-of_z w128 product fits

  more_sum : old +ℤ to_z w128 (of_z w128 product) ≡ total +ℤ product
  more_sum = λ i. same i +ℤ product_same i

  more_sum_fits : FitsSigned w128 (total +ℤ product)
  more_sum_fits = let a = more_least in let b = more_most in omega (arith, ints)

  pub more_fit : FitsSigned w128 (old +ℤ to_z w128 (of_z w128 product))
  more_fit = subst (λ (z : ℤ). FitsSigned w128 z) (sym more_sum) more_sum_fits

  pub more_same : to_z w128 (of_z w128 (old +ℤ to_z w128 (of_z w128 product))) ≡ total +ℤ product
  more_same = ap (λ (z : ℤ). to_z w128 (of_z w128 z)) more_sum ∙ to_z-of_z w128 (total +ℤ product) more_sum_fits
