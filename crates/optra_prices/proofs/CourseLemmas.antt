-- What is kept at a node while prices go along a path.
use Rattle.std.proofs.Common.{◌≡◌, ℕ, ◌<◌, Vec, Global, List, [], length, Some, slice_get, refl, sym, ap, ◌∙◌, subst}
use Rattle.std.specs.Prelude.{All, Contains, ℤ, pos, ◌*ℤ◌, slice_index, slice_index_or}
use Rattle.std.specs.declared.cmp.Ordering.{Ordering}
use Rattle.std.specs.Cmp.{IsTotalOrder}
use Rattle.std.proofs.lemmas.Option.{same_Some, slice_get_within, slice_get-get_or, get_or_from_slice_get}
use Rattle.optra_network.specs.Net.{IsProper}
use Rattle.optra_walk.specs.Families.{TellsApart}
use Rattle.optra_node.specs.Duals.{capacity_price}
use Rattle.optra_node.specs.Laws.{TestsTellAllowed, PricesByUsedRows}
use Rattle.optra_node.proofs.LeastLemmas.{at_contains}
use Rattle.optra_prices.specs.Columns.{IsColumns}
use Rattle.optra_prices.specs.Courses.{prices_at, zero_valuation, HaveCapacities, AreSetUp, IsCourse, IsPriced}
use Rattle.optra_prices.specs.Levels.{IsLevels}
use Rattle.optra_prices.specs.Uses.{AreCounted, lists_in}
use Rattle.optra_prices.specs.Listings.{capacity_sum, capacity_below}
use Rattle.optra_prices.specs.Replies.{IsValuation}
use Rattle.optra_prices.specs.Standings.{Agrees, AreTables, AllStand, value_of}
use Rattle.optra_prices.specs.Tables.{Extends, IsNumbering, AreUp}
use Rattle.optra_prices.specs.Terms.{Setting}
use Rattle.optra_prices.specs.declared.arc_tables.ArcTables.{ArcTables}
use Rattle.optra_prices.specs.declared.columns.Columns.{Columns}
use Rattle.optra_prices.specs.declared.levels.Levels.{Levels}
use Rattle.optra_prices.specs.declared.numbering.Groups.{Groups}
use Rattle.optra_prices.proofs.KeepLemmas.{zero_valued}
use Rattle.optra_prices.proofs.ListingLemmas.{entries_all, listed_proper, listed_agrees, capacity_listed}
use Rattle.optra_prices.proofs.NumberSumLemmas.{times, sum_numbers, numbers_once}
use Rattle.optra_prices.proofs.SettledLemmas.{settled_valuation}

-- a row keeps its number
pub contains_kept : {R : Type 0} (old new : List R) → Extends old new → (row : R) → Contains old row → Contains new row
contains_kept old new extends row (k, l, e) = at_contains new k row (extends k row (slice_get-get_or old k row l ∙ ap Some e))

-- a row has one number
pub numbered_once : {R : Type 0} (cmp : R → R → Ordering) (c : ArcTables R) → IsNumbering cmp c.numbering.order.items c.numbering.rows.items
    → (i j : ℕ) (row : R) → slice_get c.numbering.rows.items i ≡ Some row → slice_get c.numbering.rows.items j ≡ Some row → i ≡ j
numbered_once cmp c is i j row i_at j_at = same_Some i j (sym (is.known i row i_at) ∙ is.known j row j_at)

module _ {R : Type 0} (cmp : R → R → Ordering) (total : IsTotalOrder cmp) (apart : TellsApart cmp) (s : Setting R) (c : ArcTables R) (ordered : AreUp cmp c.numbering.order.items) where
  -- the price of all capacity by number is that of the prices
  pub capacity_is : AreSetUp cmp s c → capacity_below c.levels.prices.items c.levels.loads.capacities (length c.levels.prices.items) ≡ capacity_price s.rows (prices_at c)
  capacity_is is = sym by_number ∙ capacity_listed s.rows c.levels.prices.items c.levels.loads.capacities is.levels.range c.numbering.order.items
      (entries_all cmp total apart s.rows c.numbering.order.items c.numbering.rows.items is.numbering is.rows ordered (λ (e : R × ℕ). slice_index c.levels.loads.capacities e.1 ≡ s.rows.capacity e.0)
      (λ e at. get_or_from_slice_get c.levels.loads.capacities e.1 (s.rows.capacity e.0) 0 (is.capacities e.1 e.0 at)))
    where
      rows : List R
      rows = c.numbering.rows.items

      entries : (P : R × ℕ → Type 0) → ((e : R × ℕ) → slice_get rows e.1 ≡ Some e.0 → P e) → All P c.numbering.order.items
      entries = entries_all cmp total apart s.rows c.numbering.order.items rows is.numbering is.rows ordered

      once : (i : ℕ) → i < length rows → times i c.numbering.order.items ≡ 1
      once = numbers_once cmp total apart c.numbering.order.items rows is.numbering ordered (entries (λ (e : R × ℕ). slice_get rows e.1 ≡ Some e.0) (λ e at. at))

      by_number : capacity_sum c.numbering.order.items c.levels.prices.items c.levels.loads.capacities ≡ capacity_below c.levels.prices.items c.levels.loads.capacities (length c.levels.prices.items)
      by_number =
          subst (λ (n : ℕ). capacity_sum c.numbering.order.items c.levels.prices.items c.levels.loads.capacities ≡ capacity_below c.levels.prices.items c.levels.loads.capacities n) (sym is.price_count)
          (sum_numbers (λ (k : ℕ). slice_index_or c.levels.prices.items k (pos 0) *ℤ pos (slice_index c.levels.loads.capacities k)) (length rows) c.numbering.order.items
          (entries (λ (e : R × ℕ). e.1 < length rows) (λ e at. slice_get_within rows e.1 e.0 at)) once)

  -- a course with its value is priced
  pub course_priced : IsProper s.net → TestsTellAllowed s.net s.rows s.bids → PricesByUsedRows s.net s.rows cmp s.used → IsCourse cmp s c → c.value ≡ value_of c.levels.capacity c.standings.items → IsPriced cmp s c
  course_priced proper law by_used course value = record {
    course = course;
    proper = listed_proper cmp total apart s.rows c.numbering.order.items rows is.numbering is.rows ordered c.levels.prices.items is.levels.range;
    valuation = settled_valuation cmp s proper law by_used rows c.levels.prices.items (prices_at c) agrees c.columns.groups c.columns.grouped.items course.grouped c.tables.items c.standings.items is.tables is.stand (capacity_price s.rows (prices_at c)) refl;
    value_is = value ∙ ap (λ (z : ℤ). value_of z c.standings.items) (is.levels.capacity_is ∙ capacity_is is);
  }
    where
      is : AreSetUp cmp s c
      is = course.is

      rows : List R
      rows = c.numbering.rows.items

      agrees : Agrees cmp rows c.levels.prices.items (prices_at c)
      agrees = listed_agrees cmp total apart s.rows c.numbering.order.items rows is.numbering is.rows ordered c.levels.prices.items is.levels.range

-- at zero prices the bids are valued by what is known of them there
pub zero_is_valued : {R : Type 0} (cmp : R → R → Ordering) (s : Setting R) (c : ArcTables R) → IsProper s.net → TestsTellAllowed s.net s.rows s.bids → PricesByUsedRows s.net s.rows cmp s.used → AreSetUp cmp s c
    → IsValuation s.net s.rows s.bids s.node [] (zero_valuation c)
zero_is_valued cmp s c proper law by_used is = zero_valued cmp s proper law by_used c.numbering.rows.items c.columns.groups c.tables.items c.zero.items is.tables is.zero

-- groups by themselves
pub own_columns : (groups : Groups) (c : Columns) → IsColumns groups c → IsColumns c.groups c
own_columns groups c is = record {
  groups_are = refl;
  are = is.are;
  users_are = is.users_are;
  found = is.found;
  shares = is.shares;
  running_count = is.running_count;
  count = is.count;
  mark_count = is.mark_count;
  range = is.range;
  high = is.high;
  most = is.most;
  listed = is.listed;
}

module _ {R : Type 0} (cmp : R → R → Ordering) (s : Setting R) (c : ArcTables R) (columns : Columns) (is_columns : IsColumns c.columns.groups columns) where
  tables_same : AreTables s (length s.bids) c.numbering.rows.items c.columns.groups c.tables.items → AreTables s (length s.bids) c.numbering.rows.items columns.groups c.tables.items
  tables_same = subst (λ groups. AreTables s (length s.bids) c.numbering.rows.items groups c.tables.items) (sym is_columns.groups_are)

  -- after prices of rows have moved on and other paths were counted, what is set up stays so
  pub counted_on : (levels : Levels) (counted : Vec (Vec ℕ Global) Global) → AreSetUp cmp s c → IsLevels levels → AreCounted c.columns.groups (length c.tables.items) (lists_in counted.items) levels.loads.uses → length levels.prices.items ≡ length c.levels.prices.items → levels.loads.capacities ≡ c.levels.loads.capacities → columns.grouped ≡ c.columns.grouped
      → AreSetUp cmp s (record c { levels = levels; columns = columns; counted = counted })
  counted_on levels counted is is_levels counts count capacities grouped = record {
    numbering = is.numbering;
    rows = is.rows;
    capacities = subst (λ (cs : List ℕ). HaveCapacities s.rows c.numbering.rows.items cs) (sym capacities) is.capacities;
    price_count = count ∙ is.price_count;
    levels = is_levels;
    counted = subst (λ groups. AreCounted groups (length c.tables.items) (lists_in counted.items) levels.loads.uses) (sym is_columns.groups_are) counts;
    columns = own_columns c.columns.groups columns is_columns;
    tables = tables_same is.tables;
    stand = subst (λ prices. AllStand c.tables.items prices.items c.standings.items) (sym grouped) is.stand;
    zero = is.zero;
    holders = is.holders;
    decided = is.decided;
  }

  -- so does it where uses stay
  pub set_up_on : (levels : Levels) → AreSetUp cmp s c → IsLevels levels → levels.loads.uses ≡ c.levels.loads.uses → length levels.prices.items ≡ length c.levels.prices.items → levels.loads.capacities ≡ c.levels.loads.capacities → columns.grouped ≡ c.columns.grouped
      → AreSetUp cmp s (record c { levels = levels; columns = columns })
  set_up_on levels is is_levels uses = counted_on levels c.counted is is_levels (subst (λ (us : List ℕ). AreCounted c.columns.groups (length c.tables.items) (lists_in c.counted.items) us) (sym uses) is.counted)
