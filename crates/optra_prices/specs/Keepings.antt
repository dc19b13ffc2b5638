-- Tables of arcs that are kept from node to node, and what is known of the bids.
use Rattle.std.specs.Prelude.{◌≡◌, ◌<◌, ℕ, ℤ, Bool, true, false, List, length, All, Option, None, Some, slice_get}
use Rattle.std.specs.declared.cmp.Ordering.{Ordering}
use Rattle.optra_network.specs.Net.{Net}
use Rattle.optra_network.specs.declared.TypeId.{TypeId}
use Rattle.optra_bid.specs.declared.bids.Bid.{Bid}
use Rattle.optra_walk.specs.declared.Leg.{Leg}
use Rattle.optra_walk.specs.Families.{Rows}
use Rattle.optra_node.specs.declared.Decision.{Decision}
use Rattle.optra_prices.specs.Courses.{IsCourse}
use Rattle.optra_prices.specs.Holders.{groups_of}
use Rattle.optra_prices.specs.Standings.{Stands}
use Rattle.optra_prices.specs.Terms.{setting}
use Rattle.optra_prices.specs.declared.arc_tables.ArcTables.{ArcTables}
use Rattle.optra_prices.specs.declared.numbering.BidTable.{BidTable}
use Rattle.optra_prices.specs.declared.numbering.Standing.{Standing}

-- rows by number, a table of the arcs of each bid at the node, and what is known of each bid at zero prices and at others
abbrev pub AreKeptAt : {R : Type 0} → (R → R → Ordering) → Net → Rows R → (TypeId → Leg → List R) → List Bid → List Decision → ArcTables R → Type 0
AreKeptAt cmp net rows used bids node kept = IsCourse cmp (setting net rows used bids node) kept

-- the same at some node
abbrev pub AreKept : {R : Type 0} → (R → R → Ordering) → Net → Rows R → (TypeId → Leg → List R) → List Bid → ArcTables R → Type 0
AreKept cmp net rows used bids kept = (node : List Decision) × AreKeptAt cmp net rows used bids node kept

-- a table was brought to a node: it has the graph and the groups that it had; where nothing is said to have changed, nothing has
pub record IsBrought (changed : Bool) (old new : BidTable) : Type 0 where
  pub graph : new.graph.now ≡ old.graph.now
  pub groups : groups_of new.arcs ≡ groups_of old.arcs
  pub arcs : changed ≡ false → new.arcs ≡ old.arcs
  pub forced : changed ≡ false → new.forced ≡ old.forced
  pub other : changed ≡ true → new.arcs ≡ old.arcs → new.forced ≡ old.forced → ⊥

-- tables were brought to a node, with what has changed of each
pub record AreBrought (changed : List Bool) (old new : List BidTable) : Type 0 where
  pub count_is : length new ≡ length old
  pub changed_count : length changed ≡ length old
  pub each : (number : ℕ) (c : Bool) (before after : BidTable) → slice_get changed number ≡ Some c → slice_get old number ≡ Some before → slice_get new number ≡ Some after → IsBrought c before after

-- what stood by the table before it was brought to a node stands by it now, at the same prices of groups
abbrev pub KeepsStanding : Bool → BidTable → List ℤ → Standing → Standing → Type 0
KeepsStanding changed table grouped old new = (before : BidTable) → IsBrought changed before table → Stands before grouped old → Stands table grouped new

-- what is known of the bid at this place says that it is stuck, and of none before it
pub record IsStuckFirst (standings : List Standing) (number : ℕ) : Type 0 where
  pub standing : Standing
  pub at : slice_get standings number ≡ Some standing
  pub is : standing.stuck ≡ true
  pub free : (other : ℕ) (before : Standing) → other < number → slice_get standings other ≡ Some before → before.stuck ≡ false

-- the first of the bids that is stuck, by what is known of them; none where none is
abbrev pub IsFirstStuckIn : List Standing → Option ℕ → Type 0
IsFirstStuckIn standings None = All (λ standing. standing.stuck ≡ false) standings
IsFirstStuckIn standings (Some number) = IsStuckFirst standings number
