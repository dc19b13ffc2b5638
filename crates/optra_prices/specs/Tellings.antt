-- Which bids the way from one node to another may change.
use Rattle.std.specs.Prelude.{◌≡◌, ◌≢◌, ℕ, ◌<◌, Bool, false, List, length, All, Contains, Some, slice_get}
use Rattle.optra_bid.specs.declared.bids.Bid.{Bid}
use Rattle.optra_walk.specs.Families.{Rows}
use Rattle.optra_node.specs.declared.Decision.{Decision}
use Rattle.optra_node.specs.Nodes.{yes_load}
use Rattle.optra_prices.specs.Columns.{IsDue, MarksMore, mark_at}
use Rattle.optra_prices.specs.Holders.{groups_of, is_told}
use Rattle.optra_prices.specs.Indexes.{IndexHas}
use Rattle.optra_prices.specs.Tables.{group_at}
use Rattle.optra_prices.specs.Users.{IsTouched}
use Rattle.optra_prices.specs.declared.arc_tables.ArcTables.{ArcTables}
use Rattle.optra_prices.specs.declared.columns.Columns.{Columns}
use Rattle.optra_prices.specs.declared.columns.Mark.{Mark}
use Rattle.optra_prices.specs.declared.columns.Mark.TheVariants.{Still}
use Rattle.optra_prices.specs.ArcTerms.{ArcTerm}
use Rattle.optra_prices.specs.declared.numbering.BidTable.{BidTable}
use Rattle.optra_prices.specs.declared.numbering.Groups.{Groups}

-- the groups that touch the row with this number are due
abbrev pub AreUsersDue : ℕ → Columns → Type 0
AreUsersDue n c = (g : ℕ) → g < length c.grouped.items → IndexHas c.users n g → IsDue c g

-- marks stay or become due, and the groups that touch a used row are due
pub record MarksUsed (uses : ℕ → ℕ) (old new : Columns) : Type 0 where
  pub more : MarksMore old new
  pub due : (n : ℕ) → 0 < uses n → AreUsersDue n new

-- of a bid that isn't told no group is marked
abbrev pub TellsDue : List Mark → List BidTable → List Bool → Type 0
TellsDue marks tables told = (number : ℕ) (table : BidTable) → slice_get tables number ≡ Some table → is_told told number ≡ false → All (λ g. mark_at marks g ≡ Still) (groups_of table.arcs)

-- none of the decisions is one of a bid that isn't told
abbrev pub TellsOwn : List Decision → List Bool → Type 0
TellsOwn decisions told = (number : ℕ) → number < length told → is_told told number ≡ false → All (λ d. d.bid ≢ number) decisions

-- one of these arcs touches the row with this number
pub record IsRowOf (groups : Groups) (arcs : List ArcTerm) (n : ℕ) : Type 0 where
  pub group : ℕ
  pub has : Contains (groups_of arcs) group
  pub touched : IsTouched (group_at groups.starts.items groups.touches group) n

-- a bid that isn't told has none of the decisions, and no arc of it touches a row that a yes leg among them uses
pub record TellsMoved {R : Type 0} (rows : Rows R) (bids : List Bid) (decisions : List Decision) (c : ArcTables R) : Type 0 where
  pub count : length c.fallen.items ≡ length c.tables.items
  pub own : TellsOwn decisions c.fallen.items
  pub apart : (number : ℕ) (table : BidTable) → slice_get c.tables.items number ≡ Some table → is_told c.fallen.items number ≡ false
      → (n : ℕ) (row : R) → slice_get c.numbering.rows.items n ≡ Some row → IsRowOf c.columns.groups table.arcs n → yes_load rows bids decisions row ≡ 0
