-- The arcs of a bid's graph, with what each adds, touches and allows at a node.
use Rattle.std.specs.Prelude.{◌≡◌, ◌↔◌, ℕ, ◌+◌, ◌<◌, Bool, true, List, [], length, All, Some, slice_get}
use Rattle.optra_network.specs.Net.{Net}
use Rattle.optra_network.specs.declared.TypeId.{TypeId}
use Rattle.optra_bid.specs.declared.bids.Bid.{Bid}
use Rattle.optra_walk.specs.declared.Leg.{Leg}
use Rattle.optra_walk.specs.Families.{Rows}
use Rattle.optra_graph.specs.Timed.{Timed, leg_of, start_of, IsGraphOf}
use Rattle.optra_node.specs.declared.Decision.{Decision}
use Rattle.optra_node.specs.Nodes.{has_yes}
use Rattle.optra_node.specs.Spans.{IsLegOk, IsStartOk}
use Rattle.optra_walk.specs.Shares.{start_value, leg_value}
use Rattle.optra_prices.specs.Arcs.{IsArcValue}
use Rattle.optra_prices.specs.Tables.{AreTouches, group_at, AreGroups}
use Rattle.optra_prices.specs.ArcTerms.{ArcTerm}
use Rattle.optra_prices.specs.declared.touch.Touch.{Touch}

-- a family on a network, with the rows that a leg uses; the bids; and a node
pub record Setting (R : Type 0) : Type 0 where
  pub net : Net
  pub rows : Rows R
  pub used : TypeId → Leg → List R
  pub bids : List Bid
  pub node : List Decision

-- the arc is that of a start at the minute
pub record IsStartTerm (bid : Bid) (starts : List ℕ) (touches : List Touch) (minute : ℕ) (arc : ArcTerm) : Type 0 where
  pub value_is : arc.value ≡ start_value bid minute
  pub group_is : group_at starts touches arc.group ≡ []

-- the arc is that of the leg
pub record IsLegTerm {R : Type 0} (net : Net) (rows : Rows R) (used : TypeId → Leg → List R) (bid : Bid) (numbered : List R) (starts : List ℕ) (touches : List Touch) (leg : Leg) (arc : ArcTerm) : Type 0 where
  pub value_is : arc.value ≡ leg_value net bid leg
  pub group_is : AreTouches numbered (rows.uses bid.path.kind leg) (group_at starts touches arc.group) (used bid.path.kind leg)

-- the arcs so far are those of the graph, with what each adds and touches
pub record AreTerms {R : Type 0} (net : Net) (rows : Rows R) (used : TypeId → Leg → List R) (bid : Bid) (t : Timed) (numbered : List R) (starts : List ℕ) (touches : List Touch) (arcs : List ArcTerm) : Type 0 where
  pub starts_are : (k minute : ℕ) (arc : ArcTerm) → slice_get arcs k ≡ Some arc → start_of t k ≡ Some minute → IsStartTerm bid starts touches minute arc
  pub legs_are : (k : ℕ) (leg : Leg) (arc : ArcTerm) → slice_get arcs k ≡ Some arc → leg_of t k ≡ Some leg → IsLegTerm net rows used bid numbered starts touches leg arc
  pub within : All (λ arc. arc.group + 1 < length starts) arcs
  pub values : All (λ arc. IsArcValue arc.value) arcs

-- an arc is that of place k
pub record IsTerm {R : Type 0} (net : Net) (rows : Rows R) (used : TypeId → Leg → List R) (bid : Bid) (t : Timed) (numbered : List R) (starts : List ℕ) (touches : List Touch) (k : ℕ) (arc : ArcTerm) : Type 0 where
  pub start_is : (minute : ℕ) → start_of t k ≡ Some minute → IsStartTerm bid starts touches minute arc
  pub leg_is : (leg : Leg) → leg_of t k ≡ Some leg → IsLegTerm net rows used bid numbered starts touches leg arc
  pub within : arc.group + 1 < length starts
  pub value_in : IsArcValue arc.value

-- the parts together
abbrev pub setting : {R : Type 0} → Net → Rows R → (TypeId → Leg → List R) → List Bid → List Decision → Setting R
setting net rows used bids node = record { net = net; rows = rows; used = used; bids = bids; node = node }

-- all arcs of the bid's graph, by their groups: what is the same at all nodes
pub record AreArcs {R : Type 0} (net : Net) (rows : Rows R) (used : TypeId → Leg → List R) (bid : Bid) (t : Timed) (numbered : List R) (arcs : List ArcTerm) (starts : List ℕ) (touches : List Touch) : Type 0 where
  pub graph : IsGraphOf net bid.path t
  pub count : length arcs ≡ length t.dag.arcs
  pub groups : AreGroups starts touches
  pub terms : AreTerms net rows used bid t numbered starts touches arcs

-- the marks of the arcs tell which may be taken at the node
pub record AreMarked {R : Type 0} (s : Setting R) (number : ℕ) (kind : TypeId) (t : Timed) (arcs : List ArcTerm) : Type 0 where
  pub starts_are : (k minute : ℕ) (arc : ArcTerm) → slice_get arcs k ≡ Some arc → start_of t k ≡ Some minute → (arc.allowed ≡ true) ↔ IsStartOk s.node number minute
  pub legs_are : (k : ℕ) (leg : Leg) (arc : ArcTerm) → slice_get arcs k ≡ Some arc → leg_of t k ≡ Some leg → (arc.allowed ≡ true) ↔ IsLegOk s.net s.rows s.bids s.node number kind leg

-- all arcs of the bid's graph at the node, and whether the bid has a yes leg
pub record AreBidArcs {R : Type 0} (s : Setting R) (number : ℕ) (bid : Bid) (t : Timed) (numbered : List R) (arcs : List ArcTerm) (starts : List ℕ) (touches : List Touch) (forced : Bool) : Type 0 where
  pub graph : IsGraphOf s.net bid.path t
  pub count : length arcs ≡ length t.dag.arcs
  pub groups : AreGroups starts touches
  pub terms : AreTerms s.net s.rows s.used bid t numbered starts touches arcs
  pub marks : AreMarked s number bid.path.kind t arcs
  pub forced_is : forced ≡ has_yes s.node number
