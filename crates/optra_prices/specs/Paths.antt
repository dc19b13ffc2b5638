-- The price path, as the list of its candidates.
use Rattle.std.specs.Prelude.{◌≡◌, ◌⊎◌, ℕ, zero, suc, ◌+◌, ◌<◌, ◌≤◌, List, [], length, Some, slice_get, All, IfSome}
use Rattle.std.specs.Prelude.{ℤ, ◌≤ℤ◌, ◌<ℤ◌}
use Rattle.std.specs.declared.cmp.Ordering.{Ordering}
use Rattle.optra_network.specs.Net.{Net}
use Rattle.optra_bid.specs.declared.bids.Bid.{Bid}
use Rattle.optra_walk.specs.Families.{Rows}
use Rattle.optra_node.specs.declared.Decision.{Decision}
use Rattle.optra_node.specs.Duals.{PriceList, whole_cents}
use Rattle.optra_prices.specs.Replies.{IsValuation}
use Rattle.optra_prices.specs.Steps.{IsStep}
use Rattle.optra_prices.specs.declared.Priced.{Priced}

-- the dual value in whole cents, rounded down, is at most the incumbent
abbrev pub IsLow : {R : Type 0} → ℤ → Priced R → Type 0
IsLow incumbent candidate = whole_cents candidate.dual.value ≤ℤ incumbent

-- the candidates: the zero prices, the start prices, and then the prices after each step by the replies before it,
-- each with its dual value; the path goes on after a candidate that is above the incumbent, for at most so many steps
pub record IsPathSoFar {R : Type 0} (cmp : R → R → Ordering) (net : Net) (rows : Rows R) (bids : List Bid) (node : List Decision) (start : PriceList R) (steps : ℕ) (incumbent : ℤ) (path : List (Priced R)) : Type 0 where
  pub some : 0 < length path
  pub few : length path ≤ steps + 2
  pub each : All (λ candidate. IsValuation net rows bids node candidate.prices candidate.dual) path
  pub zero_prices : IfSome (slice_get path 0) (λ candidate. candidate.prices ≡ [])
  pub start_prices : IfSome (slice_get path 1) (λ candidate. candidate.prices ≡ start)
  pub next_prices : (k : ℕ) (before after : Priced R) → slice_get path (k + 1) ≡ Some before → slice_get path (k + 2) ≡ Some after
      → IsStep cmp rows bids before.dual.replies k before.prices after.prices
  pub goes_on : (i : ℕ) (candidate : Priced R) → i + 1 < length path → slice_get path i ≡ Some candidate → IsLow incumbent candidate → ⊥

-- the path ends after its first candidate that is at most the incumbent, or after the last step
pub record IsPricePath {R : Type 0} (cmp : R → R → Ordering) (net : Net) (rows : Rows R) (bids : List Bid) (node : List Decision) (start : PriceList R) (steps : ℕ) (incumbent : ℤ) (path : List (Priced R)) : Type 0 where
  pub so_far : IsPathSoFar cmp net rows bids node start steps incumbent path
  pub ends : (length path ≡ steps + 2) ⊎ ((last : ℕ) × (candidate : Priced R) × (last + 1 ≡ length path) × (slice_get path last ≡ Some candidate) × IsLow incumbent candidate)

-- the first candidate of least dual value
pub record IsFirstLeast {R : Type 0} (path : List (Priced R)) (best : Priced R) : Type 0 where
  pub place : ℕ
  pub is : slice_get path place ≡ Some best
  pub least : (i : ℕ) (candidate : Priced R) → slice_get path i ≡ Some candidate → best.dual.value ≤ℤ candidate.dual.value
  pub first : (i : ℕ) (candidate : Priced R) → i < place → slice_get path i ≡ Some candidate → best.dual.value <ℤ candidate.dual.value

-- the result of the price path
pub record IsPathResult {R : Type 0} (cmp : R → R → Ordering) (net : Net) (rows : Rows R) (bids : List Bid) (node : List Decision) (start : PriceList R) (steps : ℕ) (incumbent : ℤ) (result : Priced R) : Type 0 where
  pub path : List (Priced R)
  pub is_path : IsPricePath cmp net rows bids node start steps incumbent path
  pub is_result : IsFirstLeast path result

-- the prices of the candidate after place n of the path: the start prices after the zero prices, and then those after each step
abbrev pub IsNextPrices : {R : Type 0} → (R → R → Ordering) → Rows R → List Bid → PriceList R → Priced R → ℕ → PriceList R → Type 0
IsNextPrices cmp rows bids start last zero prices = prices ≡ start
IsNextPrices cmp rows bids start last (suc k) prices = IsStep cmp rows bids last.dual.replies k last.prices prices
