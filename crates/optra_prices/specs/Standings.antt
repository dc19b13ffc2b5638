-- What is known of each bid at prices.
use Rattle.std.specs.Prelude.{◌≡◌, ◌⊎◌, ℕ, true, cond, slice_set, List, [], ◌∷◌, map, length, All, Option, Some, slice_get, slice_index_or}
use Rattle.std.specs.Prelude.{ℤ, pos, negsuc, neg_ℤ, ◌+ℤ◌}
use Rattle.std.specs.List.{list_any}
use Rattle.std.specs.declared.cmp.Ordering.{Ordering}
use Rattle.std.specs.declared.cmp.Ordering.TheVariants.{Equal}
use Rattle.std.specs.Ordering.{eq_by_cmp}
use Rattle.optra_network.specs.Net.{Net}
use Rattle.optra_network.specs.declared.TypeId.{TypeId}
use Rattle.optra_bid.specs.Specs.{IsBetween}
use Rattle.optra_bid.specs.declared.bids.Bid.{Bid}
use Rattle.optra_walk.specs.declared.Leg.{Leg}
use Rattle.optra_walk.specs.Families.{Rows}
use Rattle.optra_dag.specs.Paths.{IsForward}
use Rattle.optra_node.specs.Duals.{PriceList, price_of, sum_of}
use Rattle.optra_prices.specs.Replies.{Valuation}
use Rattle.optra_prices.specs.Arcs.{IsFound, IsArcValue, path_reply}
use Rattle.optra_prices.specs.Tables.{IsNumbering, AreGroups, allows_by, no_arc, weight_by}
use Rattle.optra_prices.specs.Terms.{Setting, AreArcs, AreBidArcs}
use Rattle.optra_prices.specs.ArcTerms.{ArcTerm}
use Rattle.optra_prices.specs.declared.numbering.BidTable.{BidTable}
use Rattle.optra_prices.specs.declared.numbering.Groups.{Groups}
use Rattle.optra_prices.specs.declared.numbering.Standing.{Standing}
use Rattle.optra_prices.specs.declared.sessions.Made.{Made}

-- the groups of the arcs of a path
abbrev pub groups_on : List ArcTerm → List ℕ → List ℕ
groups_on arcs path = map (λ k. (slice_index_or arcs k no_arc).group) path

-- the search at these prices of groups found what stands, and the arcs of its path have these groups
pub record Stands (table : BidTable) (grouped : List ℤ) (standing : Standing) : Type 0 where
  pub found : IsFound table.graph.now.dag (allows_by table.arcs) (weight_by table.arcs grouped) table.forced standing.path.items standing.term standing.stuck
  pub groups_are : standing.groups.items ≡ groups_on table.arcs standing.path.items

-- all that is known of a bid is the same
pub record IsCopy (standing copy : Standing) : Type 0 where
  pub path : copy.path.items ≡ standing.path.items
  pub groups : copy.groups.items ≡ standing.groups.items
  pub term : copy.term ≡ standing.term
  pub stuck : copy.stuck ≡ standing.stuck

-- all that is known of each bid is the same
pub record AreCopies (standings copies : List Standing) : Type 0 where
  pub count : length copies ≡ length standings
  pub each : (number : ℕ) (standing copy : Standing) → slice_get standings number ≡ Some standing → slice_get copies number ≡ Some copy → IsCopy standing copy

-- what the values of arcs do not exceed in size
abbrev pub IsMost : ℤ → Type 0
IsMost z = IsBetween (pos 0) (pos 1000000000000000) z

-- no value exceeds the most in size
pub record Covers (most : ℤ) (arcs : List ArcTerm) : Type 0 where
  pub range : IsMost most
  pub values : All (λ arc. IsBetween (neg_ℤ most) most arc.value) arcs

-- the arcs fit the graph, and their values are covered
pub record IsSound (table : BidTable) : Type 0 where
  pub count : length table.graph.now.dag.arcs ≡ length table.arcs
  pub forward : IsForward table.graph.now.dag
  pub values : All (λ arc. IsArcValue arc.value) table.arcs
  pub covers : Covers table.most table.arcs

-- the prices of the rows with numbers are those of the list
abbrev pub Agrees : {R : Type 0} → (R → R → Ordering) → List R → List ℤ → PriceList R → Type 0
Agrees {R} cmp numbered prices listed = (n : ℕ) (row : R) → slice_get numbered n ≡ Some row → price_of (eq_by_cmp cmp) listed row ≡ slice_index_or prices n (pos 0)

-- the table has the arcs of the bid, as they are at all nodes
pub record IsArcTable {R : Type 0} (net : Net) (rows : Rows R) (used : TypeId → Leg → List R) (numbered : List R) (groups : Groups) (bid : Bid) (table : BidTable) : Type 0 where
  pub arcs_are : AreArcs net rows used bid table.graph.now numbered table.arcs groups.starts.items groups.touches
  pub covers : Covers table.most table.arcs

-- a table for each bid, as it is at all nodes
pub record HoldArcs {R : Type 0} (net : Net) (rows : Rows R) (used : TypeId → Leg → List R) (bids : List Bid) (count : ℕ) (numbered : List R) (groups : Groups) (tables : List BidTable) : Type 0 where
  pub count_is : length tables ≡ count
  pub each : (number : ℕ) (bid : Bid) (table : BidTable) → slice_get bids number ≡ Some bid → slice_get tables number ≡ Some table → IsArcTable net rows used numbered groups bid table

-- rows of the family by number, groups, and a table for each bid, as it is at all nodes
pub record IsMade {R : Type 0} (cmp : R → R → Ordering) (net : Net) (rows : Rows R) (used : TypeId → Leg → List R) (bids : List Bid) (made : Made R) : Type 0 where
  pub numbering : IsNumbering cmp made.numbering.order.items made.numbering.rows.items
  pub rows_are : All (λ row. rows.is_row row ≡ true) made.numbering.rows.items
  pub groups_are : AreGroups made.groups.starts.items made.groups.touches
  pub tables : HoldArcs net rows used bids (length bids) made.numbering.rows.items made.groups made.tables.items

-- the table has the arcs of the bid at the node
pub record IsBidTable {R : Type 0} (s : Setting R) (number : ℕ) (numbered : List R) (groups : Groups) (bid : Bid) (table : BidTable) : Type 0 where
  pub arcs_are : AreBidArcs s number bid table.graph.now numbered table.arcs groups.starts.items groups.touches table.forced
  pub covers : Covers table.most table.arcs

-- a table for each bid at a node
pub record AreTables {R : Type 0} (s : Setting R) (count : ℕ) (numbered : List R) (groups : Groups) (tables : List BidTable) : Type 0 where
  pub count_is : length tables ≡ count
  pub each : (number : ℕ) (bid : Bid) (table : BidTable) → slice_get s.bids number ≡ Some bid → slice_get tables number ≡ Some table
      → IsBidTable s number numbered groups bid table

-- what is known of each bid at prices of groups
pub record AllStand (tables : List BidTable) (grouped : List ℤ) (standings : List Standing) : Type 0 where
  pub count_is : length standings ≡ length tables
  pub each : (number : ℕ) (table : BidTable) (standing : Standing) → slice_get tables number ≡ Some table → slice_get standings number ≡ Some standing → Stands table grouped standing

-- the replies that the paths mean
abbrev pub replies_of : List BidTable → List Standing → List (Option (List Leg))
replies_of [] standings = []
replies_of (table ∷ tables) [] = []
replies_of (table ∷ tables) (standing ∷ standings) = path_reply table.graph.now standing.path.items ∷ replies_of tables standings

-- the terms
abbrev pub terms_of : List Standing → List ℤ
terms_of standings = map (λ standing. standing.term) standings

-- the dual value by the price of all capacity
abbrev pub value_of : ℤ → List Standing → ℤ
value_of capacity standings = cond (list_any (λ standing. standing.stuck) standings) (pos 0) (capacity +ℤ sum_of (λ term. term) (terms_of standings))

-- the valuation that the standings make
abbrev pub valuation_of : ℤ → List BidTable → List Standing → Valuation
valuation_of capacity tables standings = record { value = value_of capacity standings; replies = replies_of tables standings; terms = terms_of standings }

-- terms are less than 2^92 in size
abbrev pub IsTermSize : ℤ → Type 0
IsTermSize z = IsBetween (negsuc 4951760157141521099596496895) (pos 4951760157141521099596496896) z

-- the price of the row with this number is set, or the row has none
abbrev pub SetsPrice : {R : Type 0} → (R → R → Ordering) → List R → R × ℤ → List ℤ → List ℤ → Type 0
SetsPrice {R} cmp numbered entry old new =
    ((n : ℕ) × (slice_get numbered n ≡ Some entry.0) × (new ≡ slice_set old n entry.1)) ⊎ (((n : ℕ) (row : R) → slice_get numbered n ≡ Some row → cmp row entry.0 ≡ Equal → ⊥) × (new ≡ old))
