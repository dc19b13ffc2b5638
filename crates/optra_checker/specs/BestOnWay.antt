-- What the best walks of a bid are worth at the nodes on the way to the one that is open.
use Rattle.std.specs.Prelude.{◌≡◌, ◌⊎◌, ℕ, ◌-◌, ◌<◌, ◌≤◌, min, List, [], length, take, All, Option, None, Some, IfSome, IsSomeAnd, slice_get, slice_index_or}
use Rattle.std.specs.Prelude.{ℤ, pos, ◌*ℤ◌, ◌≤ℤ◌}
use Rattle.std.specs.declared.cmp.Ordering.{Ordering}
use Rattle.optra_network.specs.Net.{Net}
use Rattle.optra_network.specs.declared.TypeId.{TypeId}
use Rattle.optra_bid.specs.declared.bids.Bid.{Bid}
use Rattle.optra_walk.specs.declared.Leg.{Leg}
use Rattle.optra_walk.specs.Families.{Rows}
use Rattle.optra_walk.specs.Values.{value_of}
use Rattle.optra_node.specs.declared.Decision.{Decision}
use Rattle.optra_node.specs.Duals.{PriceList}
use Rattle.optra_node.specs.Nodes.{InstanceNode, kind_at, yes_uses}
use Rattle.optra_checker.specs.Frees.{Attains, IsStillFree}
use Rattle.optra_open.specs.NodeWeights.{leaf_weights, weights_at}
use Rattle.optra_open.specs.Loaded.{AreRising, IsMissing}
use Rattle.optra_rests.specs.Weights.{Weights, IsOpenWalk, IsBestWorth, IsWorthSize}
use Rattle.optra_checker.specs.declared.best_walk.BestWalk.{BestWalk}
use Rattle.optra_checker.specs.declared.best_on_way.BestOnWay.{BestOnWay}

-- no walk that may be had has a greater value, in thousandths of a cent; none may be had where there is no number
abbrev pub IsCeiling : Weights → Net → Bid → Option ℤ → Type 0
IsCeiling w net bid None = (legs : List Leg) → IsOpenWalk w net bid.path legs → ⊥
IsCeiling w net bid (Some n) = (legs : List Leg) → IsOpenWalk w net bid.path legs → (pos 1000 *ℤ value_of net bid.path bid.money legs) ≤ℤ n

-- the starts and legs that the node of so many first decisions allows a walk of the bid, at no price
abbrev pub weights_within : {R : Type 0} → Net → Rows R → (TypeId → Leg → List R) → List Bid → List Decision → ℕ → ℕ → Weights
weights_within net rows used bids node number depth = leaf_weights net rows used bids (take depth node) number [] (kind_at bids number)

-- the best walk of the bid at the node of so many first decisions
pub record IsBestWalk {R : Type 0} (net : Net) (rows : Rows R) (used : TypeId → Leg → List R) (bids : List Bid) (node : List Decision) (number : ℕ) (bid : Bid) (best : BestWalk) : Type 0 where
  pub depth : best.depth ≤ length node
  pub ceiling : IsCeiling (weights_within net rows used bids node number best.depth) net bid best.worth
  pub size : IfSome best.worth IsWorthSize
  pub walk : 0 < length best.legs.items → Attains net bid best.worth best.legs.items
  pub still : 0 < length best.legs.items → IsStillFree (weights_within net rows used bids node number best.depth) best.legs.items

-- the last one
abbrev pub last_best : BestOnWay → Option BestWalk
last_best walks = slice_get walks.kept.items (length walks.kept.items - 1)

-- each is the best walk at its node, and so many first decisions of the open node allow the legs of the last one
pub record AreBestOnWay {R : Type 0} (net : Net) (rows : Rows R) (used : TypeId → Leg → List R) (bids : List Bid) (node : List Decision) (number : ℕ) (bid : Bid) (walks : BestOnWay) : Type 0 where
  pub each : All (IsBestWalk net rows used bids node number bid) walks.kept.items
  pub within : walks.allowed_depth ≤ length node
  pub allowed_depth : IfSome (last_best walks) (λ best. 0 < length best.legs.items → IsStillFree (weights_within net rows used bids node number walks.allowed_depth) best.legs.items)

-- the same of the bid at a position
abbrev pub AreBestOf : {R : Type 0} → Net → Rows R → (TypeId → Leg → List R) → List Bid → List Decision → ℕ → BestOnWay → Type 0
AreBestOf net rows used bids node number walks = IsSomeAnd (slice_get bids number) (λ b. AreBestOnWay net rows used bids node number b walks)

-- of the node that is seen
abbrev pub AreBestAt : {X R : Type 0} → (X → Net → Rows R) → (X → Net → TypeId → Leg → List R) → InstanceNode X → ℕ → BestOnWay → Type 0
AreBestAt rows_of rows_used s number walks = AreBestOf s.net (rows_of s.family s.net) (rows_used s.family s.net) s.bids s.node number walks

-- the best walks turned back to the node of so many first decisions: those of the nodes below it are gone
pub record AreTurned (depth : ℕ) (old new : BestOnWay) : Type 0 where
  pub first : new.kept.items ≡ take (length new.kept.items) old.kept.items
  pub within : All (λ best. best.depth ≤ depth) new.kept.items
  pub allowed_depth : (new.allowed_depth ≡ 0) ⊎ ((new.kept.items ≡ old.kept.items) × (new.allowed_depth ≡ min old.allowed_depth depth))

-- the greatest worth of the walks of the bid that the node allows, at the prices
abbrev pub IsBestAt : {X R : Type 0} → (X → Net → Rows R) → (X → Net → TypeId → Leg → List R) → InstanceNode X → ℕ → PriceList R → Option ℤ → Type 0
IsBestAt rows_of rows_used s number prices worth =
    (bid : Bid) → slice_get s.bids number ≡ Some bid → IsBestWorth (weights_at rows_of rows_used s number prices) s.net bid worth

-- the node allows the legs, at no price
abbrev pub AreFreeAt : {X R : Type 0} → (X → Net → Rows R) → (X → Net → TypeId → Leg → List R) → InstanceNode X → ℕ → PriceList R → List Leg → Type 0
AreFreeAt rows_of rows_used s number prices legs = IsStillFree (weights_at rows_of rows_used s number prices) legs

-- the best walk of the bid at the node that is seen
pub record IsFoundAt {X R : Type 0} (rows_of : X → Net → Rows R) (rows_used : X → Net → TypeId → Leg → List R) (s : InstanceNode X) (number : ℕ) (found : BestWalk) : Type 0 where
  pub depth : found.depth ≡ length s.node
  pub best : IsBestAt rows_of rows_used s number [] found.worth
  pub size : IfSome found.worth IsWorthSize
  pub walk : 0 < length found.legs.items → (bid : Bid) → slice_get s.bids number ≡ Some bid → Attains s.net bid found.worth found.legs.items
  pub free : 0 < length found.legs.items → AreFreeAt rows_of rows_used s number [] found.legs.items

-- the best walks of each bid
pub record AreAllBest {R : Type 0} (net : Net) (rows : Rows R) (used : TypeId → Leg → List R) (bids : List Bid) (node : List Decision) (walks : List BestOnWay) : Type 0 where
  pub count : length walks ≡ length bids
  pub each : (number : ℕ) (d : BestOnWay) → number < length walks → AreBestOf net rows used bids node number (slice_index_or walks number d)

abbrev pub AreAllBestAt : {X R : Type 0} → (X → Net → Rows R) → (X → Net → TypeId → Leg → List R) → InstanceNode X → List BestOnWay → Type 0
AreAllBestAt rows_of rows_used s walks = AreAllBest s.net (rows_of s.family s.net) (rows_used s.family s.net) s.bids s.node walks
