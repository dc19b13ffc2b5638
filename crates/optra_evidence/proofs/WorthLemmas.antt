-- The dual value of a leaf that counts.
use Rattle.std.proofs.Common.{◌≡◌, ℕ, ◌*◌, List, length, Option, None, Some, slice_get, IfSome, refl, ap, arith, inl}
use Rattle.std.specs.Prelude.{MatchOption}
use Rattle.std.specs.Prelude.{ℤ, ◌+ℤ◌}
use Rattle.std.proofs.lemmas.Int.{ints}
use Rattle.std.proofs.lemmas.Option.{slice_get_within}
use Rattle.optra_network.specs.Net.{Net}
use Rattle.optra_bid.specs.declared.bids.Bid.{Bid}
use Rattle.optra_walk.specs.Families.{Rows}
use Rattle.optra_node.specs.declared.Decision.{Decision}
use Rattle.optra_node.specs.Duals.{sum_of, PriceList, capacity_price, IsDead}
use Rattle.optra_rests.specs.Sizes.{IsCapacityPrice}
use Rattle.optra_checker.specs.Leaves.{IsStuckBelow, AreTerms, IsSumSize}
use Rattle.optra_evidence.specs.Worths.{IsLiveDual, IsLiveValue, IsDualSize, value_by}

module _ {R : Type 0} (net : Net) (rows : Rows R) (bids : List Bid) (node : List Decision) (prices : PriceList R) where
  below : IsDead net rows bids node → IsStuckBelow net rows bids node (length bids)
  below (number, b, there, stuck) = (number, b, slice_get_within bids number b there, there, stuck)

  -- the price of capacity and the terms are the dual value
  live_is : (sum : Option ℤ) → AreTerms net rows bids node prices (length bids) sum → IsLiveDual net rows bids node prices (value_by (capacity_price rows prices) sum)
  live_is sum are = by sum are.sum_is
    where
      by : (sum : Option ℤ) → MatchOption sum (IsStuckBelow net rows bids node (length bids)) (λ total. (IsStuckBelow net rows bids node (length bids) → ⊥) × (total ≡ sum_of (λ t. t) are.terms))
          → IsLiveDual net rows bids node prices (value_by (capacity_price rows prices) sum)
      by None (number, b, l, there, stuck) = (number, b, there, stuck)
      by (Some total) s =
          let live : IsDead net rows bids node → ⊥ = λ dead. s.0 (below dead) in
          (live, (are.terms, record { count = are.count; each = are.each; total = inl (live, ap (λ t. capacity_price rows prices +ℤ t) s.1) }))

  size_is : (capacity : ℤ) (sum : Option ℤ) → IsCapacityPrice capacity → IfSome sum (IsSumSize 1000) → IfSome (value_by capacity sum) IsDualSize
  size_is capacity None c s = tt
  size_is capacity (Some total) c s = let s0 = s.0 in let s1 = s.1 in (omega (arith, ints), omega (arith, ints))

  pub live_value_is : (sum : Option ℤ) → AreTerms net rows bids node prices (length bids) sum → IsCapacityPrice (capacity_price rows prices) → IfSome sum (IsSumSize 1000)
      → IsLiveValue net rows bids node prices (value_by (capacity_price rows prices) sum)
  live_value_is sum are c s = record { dual = live_is sum are; size = size_is (capacity_price rows prices) sum c s }
