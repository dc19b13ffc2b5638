-- Prices within their ranges, and products of them, as they are in numbers of so many bits.
use Rattle.std.proofs.Common.{◌≡◌, ℕ, ◌*◌, ◌≤◌, sym, ap, ◌∙◌, subst, arith, w64, to_z, of_z}
use Rattle.std.specs.Prelude.{ℤ, pos, negsuc, ◌+ℤ◌, ◌-ℤ◌, ◌*ℤ◌, ◌≤ℤ◌, FitsSigned}
use Rattle.std.specs.Int.{w128}
use Rattle.std.proofs.Math.Nat.{mul-le-mul_left}
use Rattle.std.proofs.lemmas.Int.{ints, to_z-of_z}
use Rattle.optra_prices.specs.Bounds.{IsCapacityPrice, IsWholePrice}
use Rattle.optra_prices.specs.Tables.{IsRowPrice}

-- a product lies within the bounds of its factors
product_within : (most : ℕ) (z : ℤ) (n : ℕ) → pos 0 ≤ℤ z → z ≤ℤ pos most → (pos 0 ≤ℤ (z *ℤ pos n)) × ((z *ℤ pos n) ≤ℤ pos (most * n))
product_within most (pos p) n low high = let h : p ≤ most = omega (arith, ints) in let m = mul-le-mul_left n h in (omega (arith, ints), omega (arith, ints))
product_within most (negsuc p) n low high = absurd (omega (arith, ints))

-- a number that fits is itself again
pub row_price_same : (z : ℤ) → IsRowPrice z → to_z w64 (of_z w64 z) ≡ z
row_price_same z range = let a = range.0 in let b = range.1 in let fits : FitsSigned w64 z = omega (arith, ints) in to_z-of_z w64 z fits

capacity_price_same : (z : ℤ) → IsCapacityPrice z → to_z w128 (of_z w128 z) ≡ z
capacity_price_same z range = let a = range.0 in let b = range.1 in let fits : FitsSigned w128 z = omega (arith, ints) in to_z-of_z w128 z fits

whole_price_same : (z : ℤ) → IsWholePrice z → to_z w128 (of_z w128 z) ≡ z
whole_price_same z range = let a = range.0 in let b = range.1 in let fits : FitsSigned w128 z = omega (arith, ints) in to_z-of_z w128 z fits

pub row_price_kept : (z : ℤ) → IsRowPrice z → IsRowPrice (to_z w64 (of_z w64 z))
row_price_kept z range = subst IsRowPrice (sym (row_price_same z range)) range

-- ---- a price of a row times its capacity
module _ (price x y : ℤ) (n : ℕ) (range : IsRowPrice price) (few : n ≤ 65535) (x_is : x ≡ to_z w64 (of_z w64 price)) (y_is : y ≡ pos n) where
  price_same : to_z w128 (of_z w128 x) ≡ price
  price_same =
      let same : x ≡ price = x_is ∙ row_price_same price range in
      let a = range.0 in
      let b = range.1 in
      let fits : FitsSigned w128 x = omega (arith, ints) in
      to_z-of_z w128 x fits ∙ same

  capacity_same : to_z w128 (of_z w128 y) ≡ pos n
  capacity_same = let fits : FitsSigned w128 y = omega (arith, ints) in to_z-of_z w128 y fits ∙ y_is

  price_factors : to_z w128 (of_z w128 x) *ℤ to_z w128 (of_z w128 y) ≡ price *ℤ pos n
  price_factors = λ i. price_same i *ℤ capacity_same i

  price_within : IsCapacityPrice (price *ℤ pos n)
  price_within = let w = product_within 2000000000000 price n range.0 range.1 in let a = w.0 in let b = w.1 in (a, omega (arith, ints))

  price_fits : FitsSigned w128 (price *ℤ pos n)
  price_fits = let a = price_within.0 in let b = price_within.1 in omega (arith, ints)

  pub price_times_fit : FitsSigned w128 (to_z w128 (of_z w128 x) *ℤ to_z w128 (of_z w128 y))
  price_times_fit = subst (λ (z : ℤ). FitsSigned w128 z) (sym price_factors) price_fits

  pub price_times_value : to_z w128 (of_z w128 (to_z w128 (of_z w128 x) *ℤ to_z w128 (of_z w128 y))) ≡ price *ℤ pos n
  price_times_value = ap (λ (z : ℤ). to_z w128 (of_z w128 z)) price_factors ∙ to_z-of_z w128 (price *ℤ pos n) price_fits

  pub price_times_range : IsCapacityPrice (to_z w128 (of_z w128 (to_z w128 (of_z w128 x) *ℤ to_z w128 (of_z w128 y))))
  price_times_range = subst IsCapacityPrice (sym price_times_value) price_within

-- ---- a total with one such price in place of another
module _ (total old new : ℤ) (whole : IsWholePrice total) (old_range : IsCapacityPrice old) (new_range : IsCapacityPrice new) where
  moved_same : to_z w128 (of_z w128 new) -ℤ to_z w128 (of_z w128 old) ≡ new -ℤ old
  moved_same = λ i. capacity_price_same new new_range i -ℤ capacity_price_same old old_range i

  moved_fits : FitsSigned w128 (new -ℤ old)
  moved_fits = let a = old_range.0 in let b = old_range.1 in let c = new_range.0 in let d = new_range.1 in omega (arith, ints)

  pub price_moved_fits : FitsSigned w128 (to_z w128 (of_z w128 new) -ℤ to_z w128 (of_z w128 old))
  price_moved_fits = subst (λ (z : ℤ). FitsSigned w128 z) (sym moved_same) moved_fits

  price_moved_same : to_z w128 (of_z w128 (to_z w128 (of_z w128 new) -ℤ to_z w128 (of_z w128 old))) ≡ new -ℤ old
  price_moved_same = ap (λ (z : ℤ). to_z w128 (of_z w128 z)) moved_same ∙ to_z-of_z w128 (new -ℤ old) moved_fits

  total_same : to_z w128 (of_z w128 total) +ℤ to_z w128 (of_z w128 (to_z w128 (of_z w128 new) -ℤ to_z w128 (of_z w128 old))) ≡ total +ℤ (new -ℤ old)
  total_same = λ i. whole_price_same total whole i +ℤ price_moved_same i

  total_fits : FitsSigned w128 (total +ℤ (new -ℤ old))
  total_fits =
      let a = old_range.0 in
      let b = old_range.1 in
      let c = new_range.0 in
      let d = new_range.1 in
      let e = whole.0 in
      let f = whole.1 in
      omega (arith, ints)

  pub price_total_fits : FitsSigned w128 (to_z w128 (of_z w128 total) +ℤ to_z w128 (of_z w128 (to_z w128 (of_z w128 new) -ℤ to_z w128 (of_z w128 old))))
  price_total_fits = subst (λ (z : ℤ). FitsSigned w128 z) (sym total_same) total_fits

  pub price_total_value : to_z w128 (of_z w128 (to_z w128 (of_z w128 total) +ℤ to_z w128 (of_z w128 (to_z w128 (of_z w128 new) -ℤ to_z w128 (of_z w128 old))))) ≡ total +ℤ (new -ℤ old)
  price_total_value = ap (λ (z : ℤ). to_z w128 (of_z w128 z)) total_same ∙ to_z-of_z w128 (total +ℤ (new -ℤ old)) total_fits
