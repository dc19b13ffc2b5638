-- What the result of a price path keeps.
use Rattle.std.proofs.Common.{◌≡◌, ℕ, zero, suc, ◌+◌, List, [], length, Option, Some, slice_get, refl, sym, subst, arith}
use Rattle.std.specs.Prelude.{IfSome}
use Rattle.std.specs.Prelude.{ℤ, pos, ◌*ℤ◌, ◌≤ℤ◌, ◌<ℤ◌}
use Rattle.std.specs.declared.cmp.Ordering.{Ordering}
use Rattle.std.proofs.lemmas.Int.{ints}
use Rattle.std.proofs.Math.IntN.{negsuc}
use Rattle.std.proofs.lemmas.List.Elements.{All-nil, All-contains}
use Rattle.optra_network.specs.Net.{Net}
use Rattle.optra_bid.specs.declared.bids.Bid.{Bid}
use Rattle.optra_walk.specs.Families.{Rows}
use Rattle.optra_node.specs.declared.Decision.{Decision}
use Rattle.optra_node.specs.Duals.{sum_of, PriceList, IsPrice, IsDual, whole_cents}
use Rattle.optra_node.proofs.BaseLemmas.{zero_dual}
use Rattle.optra_node.proofs.ChildLemmas.{some_at, within_at}
use Rattle.optra_prices.specs.declared.Priced.{Priced as PathResult}
use Rattle.optra_prices.specs.Replies.{IsValuation}
use Rattle.optra_prices.specs.Steps.{AreProper}
use Rattle.optra_prices.specs.Paths.{IsPathResult}
use Rattle.optra_search.proofs.FirstLemmas.{contains_at}

-- zero prices are proper
pub zero_proper : {R : Type 0} (cmp : R → R → Ordering) (rows : Rows R) → AreProper cmp rows []
zero_proper cmp rows = record { ascending = λ i j d l m. absurd (omega arith); each = All-nil (IsPrice rows) }

-- thousandths within a number of cents are that many whole cents or fewer
pub whole_below : (value cents : ℤ) → value ≤ℤ (pos 1000 *ℤ cents) → whole_cents value ≤ℤ cents
whole_below (pos v) (pos c) h = omega (arith, ints)
whole_below (pos v) (negsuc c) h = omega (arith, ints)
whole_below (negsuc v) (pos c) h = omega (arith, ints)
whole_below (negsuc v) (negsuc c) h = omega (arith, ints)

-- a value of more whole cents than an amount that is not negative is not negative
pub whole_positive : (value cents : ℤ) → pos 0 ≤ℤ cents → cents <ℤ whole_cents value → pos 0 ≤ℤ value
whole_positive (pos v) cents p h = omega (arith, ints)
whole_positive (negsuc v) cents p h = omega (arith, ints)

if_some : {X : Type 0} (P : X → Type 0) (o : Option X) (x : X) → o ≡ Some x → IfSome o P → P x
if_some P o x e h = subst (λ (p : Option _). IfSome p P) e h

module _ {R : Type 0} (cmp : R → R → Ordering) (net : Net) (rows : Rows R) (bids : List Bid) (node : List Decision) (start : PriceList R) (steps : ℕ) (incumbent : ℤ) (result : PathResult R)
    (is : IsPathResult cmp net rows bids node start steps incumbent result) where
  -- the result has its dual value
  pub result_valued : IsValuation net rows bids node result.prices result.dual
  result_valued =
      All-contains (λ (c : PathResult R). IsValuation net rows bids node c.prices c.dual) is.path result is.is_path.so_far.each (contains_at is.path is.is_result.place result is.is_result.is)

  -- its prices are proper
  pub result_proper : AreProper cmp rows start → AreProper cmp rows result.prices
  result_proper proper = by is.is_result.place is.is_result.is
    where
      by : (place : ℕ) → slice_get is.path place ≡ Some result → AreProper cmp rows result.prices
      by zero at =
          let e : result.prices ≡ [] = if_some (λ (c : PathResult R). c.prices ≡ []) (slice_get is.path 0) result at is.is_path.so_far.zero_prices in
          subst (AreProper cmp rows) (sym e) (zero_proper cmp rows)
      by (suc zero) at =
          let e : result.prices ≡ start = if_some (λ (c : PathResult R). c.prices ≡ start) (slice_get is.path 1) result at is.is_path.so_far.start_prices in
          subst (AreProper cmp rows) (sym e) proper
      by (suc (suc k)) at =
          let w = within_at is.path (suc (suc k)) result at in
          let b = some_at is.path (k + 1) (length is.path) refl (omega arith) in
          let two : suc (suc k) ≡ k + 2 = omega arith in
          let at' : slice_get is.path (k + 2) ≡ Some result = subst (λ (n : ℕ). slice_get is.path n ≡ Some result) two at in
          (is.is_path.so_far.next_prices k b.0 result b.1 at').proper

  -- the dual value at zero prices, which the result's is at most
  pub zero_candidate : (terms : List ℤ) × (value : ℤ) × IsDual {R = R} net rows bids node [] terms value × (result.dual.value ≤ℤ value)
  zero_candidate =
      let c = some_at is.path 0 (length is.path) refl is.is_path.so_far.some in
      let e : c.0.prices ≡ [] = if_some (λ (c : PathResult R). c.prices ≡ []) (slice_get is.path 0) c.0 c.1 is.is_path.so_far.zero_prices in
      let v : IsValuation net rows bids node c.0.prices c.0.dual =
      All-contains (λ (c : PathResult R). IsValuation net rows bids node c.prices c.dual) is.path c.0 is.is_path.so_far.each (contains_at is.path 0 c.0 c.1) in
      (c.0.dual.terms, c.0.dual.value, subst (λ (prices : PriceList R). IsDual net rows bids node prices c.0.dual.terms c.0.dual.value) e v.dual, is.is_result.least 0 c.0 c.1)

  -- its dual value is at most the bases, since the zero prices are a candidate
  pub result_bases : result.dual.value ≤ℤ (pos 1000 *ℤ sum_of (λ b. b.money.base) bids)
  result_bases =
      let c = zero_candidate in
      let z = zero_dual net rows bids node c.0 c.1 c.2 in
      let l = c.3 in
      omega (arith, ints)
