-- Nodes, which decide legs of bids, and the walks that a node allows.
use Rattle.std.specs.Prelude.{◌≡◌, ℕ, ◌+◌, ◌≤◌, ◌<◌, Bool, true, false, not, ◌&&◌, nat_eq, cond, List, [], All, Contains, sum_by, Option, Some, None, slice_get, unwrap_or}
use Rattle.std.specs.declared.cmp.Ordering.{Ordering}
use Rattle.std.specs.Ordering.{is_gt}
use Rattle.std.specs.List.{AllPairs, list_any}
use Rattle.std.specs.Option.{option_map_or}
use Rattle.optra_network.specs.Net.{Net, IsTrack}
use Rattle.optra_network.specs.declared.TypeId.{TypeId}
use Rattle.optra_bid.specs.declared.bids.Bid.{Bid}
use Rattle.optra_walk.specs.declared.Leg.{Leg}
use Rattle.optra_walk.specs.Legs.{dwell_of}
use Rattle.optra_walk.specs.Walks.{IsWalk}
use Rattle.optra_walk.specs.Families.{Rows}
use Rattle.optra_node.specs.declared.Decision.{Decision}

-- a node, with the bids that it decides for, their network and the family of the rows that their legs use
pub record InstanceNode (F : Type 0) : Type 0 where
  pub family : F
  pub net : Net
  pub bids : List Bid
  pub node : List Decision

abbrev pub instance_node : {F : Type 0} → F → Net → List Bid → List Decision → InstanceNode F
instance_node family net bids node = record { family = family; net = net; bids = bids; node = node }

-- the two decide different pairs of a bid and a leg
abbrev pub DecideApart : Decision → Decision → Type 0
DecideApart a b = a.bid ≡ b.bid → a.leg ≡ b.leg → ⊥

-- each pair of a bid and a leg is decided at most once
abbrev pub DecidesOnce : List Decision → Type 0
DecidesOnce node = AllPairs DecideApart node

-- a leg on a track of the network that departs by minute 2,879 and dwells at most 240 minutes; the bid's type need not be one that may use the track
pub record IsFormedLeg (net : Net) (leg : Leg) : Type 0 where
  pub track : IsTrack net leg.track
  pub depart : leg.depart ≤ 2879
  pub dwell : dwell_of leg.action ≤ 240

-- a decision of one of so many bids and of a formed leg
pub record IsFormedDecision (net : Net) (bids : ℕ) (d : Decision) : Type 0 where
  pub in_range : d.bid < bids
  pub formed : IsFormedLeg net d.leg

-- the decisions are ones that a node's calls may be asked of: each is formed, and no pair of a bid and a leg is decided twice
pub record IsNode (net : Net) (bids : ℕ) (node : List Decision) : Type 0 where
  pub formed : All (IsFormedDecision net bids) node
  pub once : DecidesOnce node

-- the train type of the bid at a position; type 0 past the last bid
abbrev pub kind_at : List Bid → ℕ → TypeId
kind_at bids number = option_map_or (λ b. b.path.kind) (slice_get bids number) (record { 0 = 0 })

-- the leg of the bid is not decided
abbrev pub IsUndecided : List Decision → ℕ → Leg → Type 0
IsUndecided node bid leg = All (λ d. d.bid ≡ bid → d.leg ≡ leg → ⊥) node

-- the legs of the bid's walk; none where it has no walk
abbrev pub legs_at : List (Option (List Leg)) → ℕ → List Leg
legs_at walks bid = option_map_or (λ walk. unwrap_or walk []) (slice_get walks bid) []

-- legs that have the decided leg where it is yes, and do not have it where it is no
pub record Follows (legs : List Leg) (d : Decision) : Type 0 where
  pub yes : d.yes ≡ true → Contains legs d.leg
  pub no : d.yes ≡ false → Contains legs d.leg → ⊥

-- the choice is of the node
abbrev pub IsOfNode : List (Option (List Leg)) → List Decision → Type 0
IsOfNode walks node = All (λ d. Follows (legs_at walks d.bid) d) node

-- whether a decision is a yes for the bid
abbrev pub is_yes_for : ℕ → Decision → Bool
is_yes_for bid d = d.yes && nat_eq d.bid bid

-- whether the bid has a yes leg
abbrev pub has_yes : List Decision → ℕ → Bool
has_yes node bid = list_any (is_yes_for bid) node

-- how much of the row a leg of the bid uses
abbrev pub uses_at : {R : Type 0} → Rows R → List Bid → R → ℕ → Leg → ℕ
uses_at rows bids row bid leg = option_map_or (λ b. rows.uses b.path.kind leg row) (slice_get bids bid) 0

-- how much of the row the yes legs of all bids use
abbrev pub yes_load : {R : Type 0} → Rows R → List Bid → List Decision → R → ℕ
yes_load rows bids node row = sum_by (λ d. cond d.yes (uses_at rows bids row d.bid d.leg) 0) node

-- how much of the row the decided leg uses, where it is yes
abbrev pub yes_uses : {R : Type 0} → Rows R → List Bid → R → Decision → ℕ
yes_uses rows bids row d = cond d.yes (uses_at rows bids row d.bid d.leg) 0

-- how much of the row the yes legs of the other bids use
abbrev pub others_load : {R : Type 0} → Rows R → List Bid → List Decision → ℕ → R → ℕ
others_load rows bids node bid row = sum_by (λ d. cond (d.yes && not (nat_eq d.bid bid)) (uses_at rows bids row d.bid d.leg) 0) node

-- the yes legs alone use more of the row than its capacity
pub record IsOverfull {R : Type 0} (rows : Rows R) (bids : List Bid) (node : List Decision) (row : R) : Type 0 where
  pub is_row : rows.is_row row ≡ true
  pub above : rows.capacity row < yes_load rows bids node row

-- one of the rows of a kind, below which there is none of that kind
pub record IsLeast {R : Type 0} (cmp : R → R → Ordering) (P : R → Type 0) (row : R) : Type 0 where
  pub is_one : P row
  pub least : (other : R) → P other → is_gt (cmp row other) ≡ false

-- the least row of a kind; none exactly where there is none of that kind
abbrev pub IsLeastOrNone : {R : Type 0} → (R → R → Ordering) → (R → Type 0) → Option R → Type 0
IsLeastOrNone {R} cmp P None = (row : R) → P row → ⊥
IsLeastOrNone {R} cmp P (Some row) = IsLeast cmp P row

-- the leg uses the row, and it and the yes legs of the other bids use more of it than its capacity
pub record IsBlockedBy {R : Type 0} (rows : Rows R) (bids : List Bid) (node : List Decision) (bid : ℕ) (kind : TypeId) (leg : Leg) (row : R) : Type 0 where
  pub is_row : rows.is_row row ≡ true
  pub used : 0 < rows.uses kind leg row
  pub above : rows.capacity row < rows.uses kind leg row + others_load rows bids node bid row

abbrev pub IsBlocked : {R : Type 0} → Rows R → List Bid → List Decision → ℕ → TypeId → Leg → Type 0
IsBlocked {R} rows bids node bid kind leg = (row : R) × IsBlockedBy rows bids node bid kind leg row

-- a walk of the bid at this number that has each of its yes legs, none of its no legs and no blocked leg
pub record IsAllowed {R : Type 0} (net : Net) (rows : Rows R) (bids : List Bid) (node : List Decision) (number : ℕ) (bid : Bid) (legs : List Leg) : Type 0 where
  pub walk : IsWalk net bid.path legs
  pub decided : All (λ d. d.bid ≡ number → Follows legs d) node
  pub free : All (λ leg. IsBlocked rows bids node number bid.path.kind leg → ⊥) legs
