-- What a bid is offered at a leaf.
use Rattle.std.specs.Prelude.{◌≡◌, ℕ, ◌*◌, ◌<◌, List, length, Option, None, Some, MatchOption, slice_get}
use Rattle.std.specs.Prelude.{ℤ, pos, ◌+ℤ◌, ◌-ℤ◌, ◌≤ℤ◌}
use Rattle.optra_network.specs.Net.{Net}
use Rattle.optra_network.specs.declared.TypeId.{TypeId}
use Rattle.optra_bid.specs.declared.bids.Bid.{Bid}
use Rattle.optra_walk.specs.declared.Leg.{Leg}
use Rattle.optra_walk.specs.Families.{Rows}
use Rattle.optra_node.specs.declared.Decision.{Decision}
use Rattle.optra_node.specs.Nodes.{InstanceNode, kind_at}
use Rattle.optra_node.specs.Duals.{sum_of, PriceList, leg_price, IsGreatest, IsOffer, IsStuck, IsTerm}
use Rattle.optra_open.specs.Tests.{may_start_at, may_have_leg}
use Rattle.optra_rests.specs.Weights.{Weights}

-- the bid's greatest offer; none exactly where the bid is stuck
abbrev pub IsBestOffer : {R : Type 0} → Net → Rows R → List Bid → List Decision → PriceList R → ℕ → Bid → Option ℤ → Type 0
IsBestOffer net rows bids node prices number bid None = IsStuck net rows bids node number bid
IsBestOffer net rows bids node prices number bid (Some n) = IsGreatest (IsOffer net rows bids node prices number bid) n

-- one of the first bids is stuck
abbrev pub IsStuckBelow : {R : Type 0} → Net → Rows R → List Bid → List Decision → ℕ → Type 0
IsStuckBelow net rows bids node n = (number : ℕ) × (bid : Bid) × (number < n) × (slice_get bids number ≡ Some bid) × IsStuck net rows bids node number bid

-- the terms of the first bids, and their sum; no sum where one of these bids is stuck
pub record AreTerms {R : Type 0} (net : Net) (rows : Rows R) (bids : List Bid) (node : List Decision) (prices : PriceList R) (n : ℕ) (sum : Option ℤ) : Type 0 where
  pub terms : List ℤ
  pub count : length terms ≡ n
  pub each : (number : ℕ) (bid : Bid) (term : ℤ) → slice_get bids number ≡ Some bid → slice_get terms number ≡ Some term → IsTerm net rows bids node prices number bid term
  pub sum_is : MatchOption sum (IsStuckBelow net rows bids node n) (λ total. (IsStuckBelow net rows bids node n → ⊥) × (total ≡ sum_of (λ t. t) terms))

-- at most 2^80 for each of the first bids, above or below zero
abbrev pub IsSumSize : ℕ → ℤ → Type 0
IsSumSize n total = ((pos 0 -ℤ pos (1208925819614629174706176 * n)) ≤ℤ total) × (total ≤ℤ pos (1208925819614629174706176 * n))

-- the sum of two numbers; none where either is missing
abbrev pub plus_of : Option ℤ → Option ℤ → Option ℤ
plus_of None b = None
plus_of (Some a) None = None
plus_of (Some a) (Some b) = Some (a +ℤ b)

-- the price of all capacity and a sum of terms; 0 where there is no sum
abbrev pub dual_by : ℤ → Option ℤ → ℤ
dual_by capacity None = pos 0
dual_by capacity (Some sum) = capacity +ℤ sum
