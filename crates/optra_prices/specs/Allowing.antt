-- Tables of arcs that are brought from one node to another.
use Rattle.std.specs.Prelude.{◌≡◌, ◌↔◌, ℕ, ◌+◌, ◌<◌, Bool, true, false, List, [], length, All, Some, slice_get}
use Rattle.optra_network.specs.Net.{Net}
use Rattle.optra_network.specs.declared.TypeId.{TypeId}
use Rattle.optra_bid.specs.declared.bids.Bid.{Bid}
use Rattle.optra_walk.specs.declared.Leg.{Leg}
use Rattle.optra_walk.specs.Families.{Rows}
use Rattle.optra_graph.specs.Timed.{Timed, leg_of, start_of}
use Rattle.optra_node.specs.declared.Decision.{Decision}
use Rattle.optra_node.specs.Nodes.{IsBlocked, has_yes, kind_at}
use Rattle.optra_node.specs.Spans.{IsLetBy, IsStartOk}
use Rattle.optra_prices.specs.Marks.{IsMark}
use Rattle.optra_prices.specs.NarrowArcs.{AreAllowed}
use Rattle.optra_prices.specs.Rooms.{HasRoomForAll}
use Rattle.optra_prices.specs.Tables.{AreGroups, group_at}
use Rattle.optra_prices.specs.Standings.{IsArcTable, IsBidTable}
use Rattle.optra_prices.specs.Terms.{Setting}
use Rattle.optra_prices.specs.ArcTerms.{ArcTerm}
use Rattle.optra_prices.specs.declared.numbering.BidTable.{BidTable}
use Rattle.optra_prices.specs.declared.numbering.Groups.{Groups}
use Rattle.optra_prices.specs.declared.rooms.Room.{Room}

-- the arc adds and touches what it did, and may be taken where its start or its leg passes the node's test
pub record IsToldAnew {R : Type 0} (net : Net) (rows : Rows R) (bids : List Bid) (node : List Decision) (number : ℕ) (t : Timed) (k : ℕ) (old new : ArcTerm) : Type 0 where
  pub value_is : new.value ≡ old.value
  pub group_is : new.group ≡ old.group
  pub mark : IsMark net rows bids node number t k new.allowed

-- all arcs of a graph are told anew
pub record AreToldAnew {R : Type 0} (net : Net) (rows : Rows R) (bids : List Bid) (node : List Decision) (number : ℕ) (t : Timed) (old new : List ArcTerm) : Type 0 where
  pub count_is : length new ≡ length old
  pub each : (k : ℕ) (before after : ArcTerm) → slice_get old k ≡ Some before → slice_get new k ≡ Some after → IsToldAnew net rows bids node number t k before after

-- the table has the graph that it had, its arcs are told anew, and so is whether the bid has a yes leg
pub record IsTableAnew {R : Type 0} (net : Net) (rows : Rows R) (bids : List Bid) (node : List Decision) (number : ℕ) (old new : BidTable) : Type 0 where
  pub graph : new.graph.now ≡ old.graph.now
  pub most : new.most ≡ old.most
  pub arcs : AreToldAnew net rows bids node number old.graph.now old.arcs new.arcs
  pub forced_is : new.forced ≡ has_yes node number

-- the table is that of a bid
abbrev pub IsTableFor : {R : Type 0} → Net → Rows R → (TypeId → Leg → List R) → List Bid → List R → Groups → ℕ → BidTable → Type 0
IsTableFor net rows used bids numbered groups number table = (bid : Bid) × (slice_get bids number ≡ Some bid) × IsArcTable net rows used numbered groups bid table

-- the table of each bid that isn't told is at the node
abbrev pub AreAtUnlessTold : {R : Type 0} → Setting R → List R → Groups → List Bool → List BidTable → Type 0
AreAtUnlessTold s numbered groups told tables = (number : ℕ) (bid : Bid) (table : BidTable) → slice_get told number ≡ Some false → slice_get s.bids number ≡ Some bid → slice_get tables number ≡ Some table → IsBidTable s number numbered groups bid table

-- arcs are in groups of touches: that of a start is empty, and there is room for that of a leg exactly where the leg is not blocked
pub record RoomTells {R : Type 0} (rows : Rows R) (bids : List Bid) (node : List Decision) (number : ℕ) (room : Room) (t : Timed) (groups : Groups) (arcs : List ArcTerm) : Type 0 where
  pub count : length arcs ≡ length t.dag.arcs
  pub groups_are : AreGroups groups.starts.items groups.touches
  pub within : All (λ arc. arc.group + 1 < length groups.starts.items) arcs
  pub starts_are : (k minute : ℕ) (arc : ArcTerm) → slice_get arcs k ≡ Some arc → start_of t k ≡ Some minute → group_at groups.starts.items groups.touches arc.group ≡ []
  pub legs_are : (k : ℕ) (leg : Leg) (arc : ArcTerm) → slice_get arcs k ≡ Some arc → leg_of t k ≡ Some leg
      → HasRoomForAll room (group_at groups.starts.items groups.touches arc.group) ↔ (IsBlocked rows bids node number (kind_at bids number) leg → ⊥)

-- the mark tells whether there is room and the bid's own decisions let its walk take the arc
pub record IsLetMark (net : Net) (bids : List Bid) (node : List Decision) (number : ℕ) (t : Timed) (k : ℕ) (has_room mark : Bool) : Type 0 where
  pub start_is : (minute : ℕ) → start_of t k ≡ Some minute → (mark ≡ true) ↔ ((has_room ≡ true) × IsStartOk node number minute)
  pub leg_is : (leg : Leg) → leg_of t k ≡ Some leg → (mark ≡ true) ↔ ((has_room ≡ true) × IsLetBy net node number (kind_at bids number) leg)

-- each arc of the table may be taken, and the bid has no yes leg
pub record IsOpen (table : BidTable) : Type 0 where
  pub arcs : AreAllowed table.arcs
  pub forced_is : table.forced ≡ false
