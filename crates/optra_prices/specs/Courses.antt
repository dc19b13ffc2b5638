-- What a plan keeps at a node while prices go along a path, and what the prices by number mean.
use Rattle.std.specs.Prelude.{◌≡◌, ℕ, true, cond, List, [], ◌∷◌, length, replicate, All, Contains, Option, Some, slice_get, slice_index_or}
use Rattle.std.specs.Prelude.{ℤ, pos}
use Rattle.std.specs.Int.{is_positive}
use Rattle.std.specs.declared.cmp.Ordering.{Ordering}
use Rattle.optra_walk.specs.declared.Leg.{Leg}
use Rattle.optra_walk.specs.Families.{Rows}
use Rattle.optra_node.specs.Duals.{PriceList, capacity_price}
use Rattle.optra_prices.specs.Columns.{IsColumns, AreRunning, AreStill, PricesAllButDue}
use Rattle.optra_prices.specs.Holders.{AreHolders}
use Rattle.optra_prices.specs.Levels.{IsLevels, moved_by}
use Rattle.optra_prices.specs.Replies.{Valuation, IsValuation}
use Rattle.optra_prices.specs.Rooms.{IsDecided}
use Rattle.optra_prices.specs.Steps.{AreProper}
use Rattle.optra_prices.specs.Tables.{IsNumbering, AreGroupPrices}
use Rattle.optra_prices.specs.Terms.{Setting}
use Rattle.optra_prices.specs.Standings.{AreTables, AllStand, replies_of, valuation_of}
use Rattle.optra_prices.specs.Uses.{AreCounted, lists_in}
use Rattle.optra_prices.specs.declared.Priced.{Priced}
use Rattle.optra_prices.specs.declared.arc_tables.ArcTables.{ArcTables}

-- the rows with a price above zero, with their prices; each row stands with its number
abbrev pub listed : {R : Type 0} → List (R × ℕ) → List ℤ → PriceList R
listed [] prices = []
listed (e ∷ es) prices = cond (is_positive (slice_index_or prices e.1 (pos 0))) ((e.0, slice_index_or prices e.1 (pos 0)) ∷ listed es prices) (listed es prices)

-- the prices of so many rows, of which these have one
abbrev pub prices_by : ℕ → List (ℕ × ℤ) → List ℤ
prices_by count moves = moved_by moves (replicate count (pos 0))

-- the list of the prices of rows by number
abbrev pub listed_by : {R : Type 0} → ArcTables R → List (ℕ × ℤ) → PriceList R
listed_by c moves = listed c.numbering.order.items (prices_by (length c.numbering.rows.items) moves)

-- the prices
abbrev pub prices_at : {R : Type 0} → ArcTables R → PriceList R
prices_at c = listed c.numbering.order.items c.levels.prices.items

-- the dual value, the terms and the replies
abbrev pub valuation_at : {R : Type 0} → Rows R → ArcTables R → Valuation
valuation_at rows c = valuation_of (capacity_price rows (prices_at c)) c.tables.items c.standings.items

-- the replies
abbrev pub replies_at : {R : Type 0} → ArcTables R → List (Option (List Leg))
replies_at c = replies_of c.tables.items c.standings.items

-- the dual value, the terms and the replies at zero prices
abbrev pub zero_valuation : {R : Type 0} → ArcTables R → Valuation
zero_valuation c = valuation_of (pos 0) c.tables.items c.zero.items

-- the prices with their dual value
abbrev pub candidate_at : {R : Type 0} → Rows R → ArcTables R → Priced R
candidate_at rows c = record { prices = prices_at c; dual = valuation_at rows c }

-- zero prices with their dual value
abbrev pub zero_candidate : {R : Type 0} → ArcTables R → Priced R
zero_candidate c = record { prices = []; dual = zero_valuation c }

-- each row with its capacity
abbrev pub HaveCapacities : {R : Type 0} → Rows R → List R → List ℕ → Type 0
HaveCapacities {R} rows numbered capacities = (n : ℕ) (row : R) → slice_get numbered n ≡ Some row → slice_get capacities n ≡ Some (rows.capacity row)

-- rows by number with prices, groups with prices, a table of each bid at the node, what is known of it at the prices of the groups and at zero prices, which bids have a group, and what the paths use of rows that were counted
pub record AreSetUp {R : Type 0} (cmp : R → R → Ordering) (s : Setting R) (c : ArcTables R) : Type 0 where
  pub numbering : IsNumbering cmp c.numbering.order.items c.numbering.rows.items
  pub rows : All (λ row. s.rows.is_row row ≡ true) c.numbering.rows.items
  pub capacities : HaveCapacities s.rows c.numbering.rows.items c.levels.loads.capacities
  pub price_count : length c.levels.prices.items ≡ length c.numbering.rows.items
  pub levels : IsLevels c.levels
  pub counted : AreCounted c.columns.groups (length c.tables.items) (lists_in c.counted.items) c.levels.loads.uses
  pub columns : IsColumns c.columns.groups c.columns
  pub tables : AreTables s (length s.bids) c.numbering.rows.items c.columns.groups c.tables.items
  pub stand : AllStand c.tables.items c.columns.grouped.items c.standings.items
  pub zero : AllStand c.tables.items [] c.zero.items
  pub holders : AreHolders c.tables.items c.holders
  pub decided : IsDecided s.net s.rows s.bids c.numbering.rows.items s.node c.decided

-- the groups have the prices of the rows that they touch, and no mark
pub record IsCourse {R : Type 0} (cmp : R → R → Ordering) (s : Setting R) (c : ArcTables R) : Type 0 where
  pub is : AreSetUp cmp s c
  pub still : AreStill c.columns
  pub running : AreRunning c.levels.prices.items c.columns
  pub grouped : AreGroupPrices c.levels.prices.items c.columns.groups.starts.items c.columns.groups.touches c.columns.grouped.items

-- prices of rows have moved, and the groups that touch them are due
pub record HasMoved {R : Type 0} (cmp : R → R → Ordering) (s : Setting R) (c : ArcTables R) : Type 0 where
  pub is : AreSetUp cmp s c
  pub due : PricesAllButDue c.levels.prices.items c.columns

-- the prices are proper, and the dual value, the terms and the replies are those at the prices
pub record IsPriced {R : Type 0} (cmp : R → R → Ordering) (s : Setting R) (c : ArcTables R) : Type 0 where
  pub course : IsCourse cmp s c
  pub proper : AreProper cmp s.rows (prices_at c)
  pub valuation : IsValuation s.net s.rows s.bids s.node (prices_at c) (valuation_at s.rows c)
  pub value_is : c.value ≡ (valuation_at s.rows c).value

-- the rows keep their numbers, the bids their tables, and what is known at zero prices stays
pub record KeepsRows {R : Type 0} (old new : ArcTables R) : Type 0 where
  pub numbering : new.numbering ≡ old.numbering
  pub tables : new.tables ≡ old.tables
  pub zero : new.zero ≡ old.zero

-- each listed row has a number
abbrev pub AreNumbered : {R : Type 0} → ArcTables R → PriceList R → Type 0
AreNumbered c prices = All (λ e. Contains c.numbering.rows.items e.0) prices
