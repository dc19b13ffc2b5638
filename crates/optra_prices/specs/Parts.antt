-- What the arcs of a bid's graph add to the value of a walk, and which of them may be taken beside what is placed.
use Rattle.std.specs.Prelude.{◌≡◌, ℕ, ◌+◌, ◌≤◌, ◌<◌, ◌↔◌, Bool, true, false, List, length, map, Some, slice_get, slice_index_or, pos}
use Rattle.optra_network.specs.Net.{Net}
use Rattle.optra_network.specs.declared.TypeId.{TypeId}
use Rattle.optra_bid.specs.declared.bids.Bid.{Bid}
use Rattle.optra_walk.specs.declared.Leg.{Leg}
use Rattle.optra_walk.specs.Families.{Rows, load_of}
use Rattle.optra_graph.specs.Timed.{Timed, leg_of, start_of}
use Rattle.optra_node.specs.declared.Decision.{Decision}
use Rattle.optra_node.specs.Spans.{IsLegOk, IsStartOk}
use Rattle.optra_walk.specs.Shares.{start_value, leg_value}
use Rattle.optra_prices.specs.Arcs.{IsArcValue}
use Rattle.optra_prices.specs.Rooms.{IsRoom, HasRoomForAll}
use Rattle.optra_prices.specs.Tables.{group_at}
use Rattle.optra_prices.specs.declared.arc_tables.ArcTables.{ArcTables}
use Rattle.optra_prices.specs.ArcTerms.{ArcTerm}
use Rattle.optra_prices.specs.declared.numbering.BidTable.{BidTable}
use Rattle.optra_prices.specs.declared.touch.Touch.{Touch}
use Rattle.optra_prices.specs.declared.parts.ArcPart.{ArcPart}
use Rattle.optra_prices.specs.declared.rooms.Room.{Room}

-- past the last arc
abbrev pub no_part : ArcPart
no_part = record { value = pos 0; allowed = false }

abbrev pub part_at : List ArcPart → ℕ → ArcPart
part_at parts k = slice_index_or parts k no_part

-- no row that the leg uses would get above its capacity
abbrev pub HasRoom : {R : Type 0} → Rows R → (R → ℕ) → TypeId → Leg → Type 0
HasRoom {R} rows total kind leg = (row : R) → 0 < rows.uses kind leg row → total row + rows.uses kind leg row ≤ rows.capacity row

-- a start arc may be taken where the bid may start then; the arc of a leg may be taken where the leg is ok and has room; each has its part of the value
pub record IsPart {R : Type 0} (net : Net) (rows : Rows R) (bids : List Bid) (node : List Decision) (total : R → ℕ) (number : ℕ) (bid : Bid) (t : Timed) (k : ℕ) (part : ArcPart) : Type 0 where
  pub start_allowed : (minute : ℕ) → start_of t k ≡ Some minute → (part.allowed ≡ true) ↔ IsStartOk node number minute
  pub start_is : (minute : ℕ) → start_of t k ≡ Some minute → part.value ≡ start_value bid minute
  pub leg_allowed : (leg : Leg) → leg_of t k ≡ Some leg → (part.allowed ≡ true) ↔ (IsLegOk net rows bids node number bid.path.kind leg × HasRoom rows total bid.path.kind leg)
  pub leg_is : (leg : Leg) → leg_of t k ≡ Some leg → part.value ≡ leg_value net bid leg
  pub range : IsArcValue part.value

-- the first arcs have their parts
pub record AreParts {R : Type 0} (net : Net) (rows : Rows R) (bids : List Bid) (node : List Decision) (total : R → ℕ) (number : ℕ) (bid : Bid) (t : Timed) (arcs : ℕ) (parts : List ArcPart) : Type 0 where
  pub count : length parts ≡ arcs
  pub each : (k : ℕ) → k < arcs → IsPart net rows bids node total number bid t k (part_at parts k)

-- the graph of the bid's table
abbrev pub IsTableGraph : {R : Type 0} → ArcTables R → ℕ → Timed → Type 0
IsTableGraph kept number t = (table : BidTable) × (slice_get kept.tables.items number ≡ Some table) × (table.graph.now ≡ t)

-- so much is used of each row that the tables know, beside its capacity
abbrev pub IsRoomIn : {R : Type 0} → Rows R → ArcTables R → (R → ℕ) → Room → Type 0
IsRoomIn rows kept total room = IsRoom rows kept.numbering.rows.items total room

-- the part of an arc that touches these: it has the arc's value, and may be taken where the arc may and there is room
pub record IsPartOf (room : Room) (touches : List Touch) (arc : ArcTerm) (part : ArcPart) : Type 0 where
  pub value_is : part.value ≡ arc.value
  pub allowed : (part.allowed ≡ true) ↔ ((arc.allowed ≡ true) × HasRoomForAll room touches)

-- the parts of the first arcs
pub record ArePartsOf (room : Room) (starts : List ℕ) (touches : List Touch) (arcs : List ArcTerm) (count : ℕ) (parts : List ArcPart) : Type 0 where
  pub count_is : length parts ≡ count
  pub each : (k : ℕ) (arc : ArcTerm) (part : ArcPart) → slice_get arcs k ≡ Some arc → slice_get parts k ≡ Some part → IsPartOf room (group_at starts touches arc.group) arc part

-- how much of a row legs of the type use
abbrev pub legs_load : {R : Type 0} → Rows R → TypeId → List Leg → R → ℕ
legs_load rows kind legs row = load_of rows row (map (λ leg. (kind, leg)) legs)

-- no row has a total above its capacity
abbrev pub KeepsWithin : {R : Type 0} → Rows R → (R → ℕ) → Type 0
KeepsWithin {R} rows total = (row : R) → rows.is_row row ≡ true → total row ≤ rows.capacity row

-- with all the legs together no row gets above its capacity
abbrev pub HaveRoomFor : {R : Type 0} → Rows R → (R → ℕ) → TypeId → List Leg → Type 0
HaveRoomFor {R} rows total kind legs = (row : R) → rows.is_row row ≡ true → total row + legs_load rows kind legs row ≤ rows.capacity row

-- the legs were added to the room where together they have room; else the room is as it was
abbrev pub IsPutIn : {R : Type 0} → Rows R → ArcTables R → TypeId → List Leg → Bool → (R → ℕ) → Room → Type 0
IsPutIn rows kept kind legs true total room = HaveRoomFor rows total kind legs × IsRoomIn rows kept (λ row. total row + legs_load rows kind legs row) room
IsPutIn rows kept kind legs false total room = (HaveRoomFor rows total kind legs → ⊥) × IsRoomIn rows kept total room
