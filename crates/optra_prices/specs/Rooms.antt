-- How much is used of rows by their numbers, and the room that is left.
use Rattle.std.specs.Prelude.{◌≡◌, ◌↔◌, ℕ, ◌+◌, ◌≤◌, ◌<◌, true, List, length, replicate, All, Some, slice_get, slice_index_or}
use Rattle.optra_network.specs.Net.{Net}
use Rattle.optra_bid.specs.declared.bids.Bid.{Bid}
use Rattle.optra_walk.specs.Families.{Rows}
use Rattle.optra_node.specs.declared.Decision.{Decision}
use Rattle.optra_node.specs.Nodes.{IsFormedDecision, yes_load}
use Rattle.optra_prices.specs.Claims.{AreClaims}
use Rattle.optra_prices.specs.Tables.{group_at}
use Rattle.optra_prices.specs.declared.claims.Claim.{Claim}
use Rattle.optra_prices.specs.declared.decided.Decided.{Decided}
use Rattle.optra_prices.specs.declared.numbering.Groups.{Groups}
use Rattle.optra_prices.specs.declared.touch.Touch.{Touch}
use Rattle.optra_prices.specs.declared.rooms.Room.{Room}
use Rattle.optra_prices.specs.declared.rooms.Told.{Told}

-- so much is used of each row that has a number, beside its capacity
pub record IsRoom {R : Type 0} (rows : Rows R) (numbered : List R) (total : R → ℕ) (room : Room) : Type 0 where
  pub uses_are : (n : ℕ) (row : R) → slice_get numbered n ≡ Some row → slice_get room.loads.uses n ≡ Some (total row)
  pub capacities_are : (n : ℕ) (row : R) → slice_get numbered n ≡ Some row → slice_get room.loads.capacities n ≡ Some (rows.capacity row)

-- the decisions are those of the node, with what each of them uses, and so much of each row that has a number is used by its yes legs
pub record IsDecided {R : Type 0} (net : Net) (rows : Rows R) (bids : List Bid) (numbered : List R) (node : List Decision) (decided : Decided) : Type 0 where
  pub decisions_are : decided.decisions.items ≡ node
  pub formed : All (IsFormedDecision net (length bids)) node
  pub claims_are : AreClaims rows bids numbered node decided.claims.items
  pub room_is : IsRoom rows numbered (yes_load rows bids node) decided.room

-- there is room for the touch
abbrev pub HasRoomFor : Room → Touch → Type 0
HasRoomFor room touch = slice_index_or room.loads.uses touch.row 0 + touch.uses ≤ slice_index_or room.loads.capacities touch.row 0

-- there is room for each of the touches
abbrev pub HasRoomForAll : Room → List Touch → Type 0
HasRoomForAll room touches = All (HasRoomFor room) touches

-- there is room for each of the touches of which the row is held
abbrev pub HasRoomOnHeld : Room → List Touch → Type 0
HasRoomOnHeld room touches = All (λ touch. touch.row < length room.loads.uses → HasRoomFor room touch) touches

-- what is told of a group is whether there is room for it
abbrev pub IsTold : Room → Groups → Told → Type 0
IsTold room groups told = (told.has_room ≡ true) ↔ HasRoomForAll room (group_at groups.starts.items groups.touches told.group)

-- the copy has the same capacities, and nothing is used of it
pub record IsFreeCopy (room copy : Room) : Type 0 where
  pub uses_are : copy.loads.uses ≡ replicate (length room.loads.uses) 0
  pub capacities_are : copy.loads.capacities ≡ room.loads.capacities

-- no more is used of the row with number n than there is
abbrev pub IsNumberWithin : Room → ℕ → Type 0
IsNumberWithin room n = slice_index_or room.loads.uses n 0 ≤ slice_index_or room.loads.capacities n 0

-- each row that is claimed has a number, and no more is used of it than there is
pub record IsClaimWithin (room : Room) (claim : Claim) : Type 0 where
  pub whole : claim.whole ≡ true
  pub within : All (λ touch. IsNumberWithin room touch.row) claim.touches.items
