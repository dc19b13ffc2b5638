-- What the best walks of bids are worth at a leaf, and the dual value where it counts.
use Rattle.std.specs.Prelude.{◌≡◌, ℕ, ◌*◌, ◌<◌, List, length, Option, None, Some, IfSome, slice_index_or}
use Rattle.std.specs.Prelude.{ℤ, pos, ◌+ℤ◌, ◌-ℤ◌, ◌≤ℤ◌}
use Rattle.optra_network.specs.Net.{Net}
use Rattle.optra_network.specs.declared.TypeId.{TypeId}
use Rattle.optra_bid.specs.declared.bids.Bid.{Bid}
use Rattle.optra_walk.specs.declared.Leg.{Leg}
use Rattle.optra_walk.specs.Families.{Rows}
use Rattle.optra_node.specs.declared.Decision.{Decision}
use Rattle.optra_node.specs.Nodes.{InstanceNode}
use Rattle.optra_node.specs.Duals.{PriceList, IsDead, IsDual}
use Rattle.optra_rests.specs.Weights.{IsWorthSize}
use Rattle.optra_checker.specs.BestOnWay.{IsBestAt}

-- what the best walk of each bid is worth that the node allows, at the prices; none where it allows none
pub record AreWorthsAt {X R : Type 0} (rows_of : X → Net → Rows R) (rows_used : X → Net → TypeId → Leg → List R) (s : InstanceNode X) (prices : PriceList R) (worths : List (Option ℤ)) : Type 0 where
  pub count : length worths ≡ length s.bids
  pub each : (number : ℕ) (d : Option ℤ) → number < length worths → IsBestAt rows_of rows_used s number prices (slice_index_or worths number d)
  pub size : (number : ℕ) (d : Option ℤ) → number < length worths → IfSome (slice_index_or worths number d) IsWorthSize

-- the dual value of a node that counts; none exactly where it doesn't
abbrev pub IsLiveDual : {R : Type 0} → Net → Rows R → List Bid → List Decision → PriceList R → Option ℤ → Type 0
IsLiveDual net rows bids node prices None = IsDead net rows bids node
IsLiveDual net rows bids node prices (Some value) = (IsDead net rows bids node → ⊥) × ((terms : List ℤ) × IsDual net rows bids node prices terms value)

-- at most 2^121, above or below zero
abbrev pub IsDualSize : ℤ → Type 0
IsDualSize value = ((pos 0 -ℤ pos 2658455991569831745807614120560689152) ≤ℤ value) × (value ≤ℤ pos 2658455991569831745807614120560689152)

-- at most 2^122, above or below zero
abbrev pub IsRestSize : ℤ → Type 0
IsRestSize rest = ((pos 0 -ℤ pos 5316911983139663491615228241121378304) ≤ℤ rest) × (rest ≤ℤ pos 5316911983139663491615228241121378304)

-- the dual value where it counts, of a size that can be gone on with
pub record IsLiveValue {R : Type 0} (net : Net) (rows : Rows R) (bids : List Bid) (node : List Decision) (prices : PriceList R) (value : Option ℤ) : Type 0 where
  pub dual : IsLiveDual net rows bids node prices value
  pub size : IfSome value IsDualSize

-- the price of all capacity and a sum of terms; none where there is no sum
abbrev pub value_by : ℤ → Option ℤ → Option ℤ
value_by capacity None = None
value_by capacity (Some sum) = Some (capacity +ℤ sum)
