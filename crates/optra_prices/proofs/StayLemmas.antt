-- Tables that stay as they are from node to node.
use Rattle.std.proofs.Common.{◌≡◌, ◌≢◌, ℕ, zero, suc, ◌<◌, ◌≤◌, Bool, true, false, List, length, take, drop, replicate, Some, slice_get, cond, refl, sym, ap, ◌∙◌, subst, arith}
use Rattle.std.specs.Prelude.{◌&&◌, ◌||◌, not, nat_eq, All, Contains}
use Rattle.std.specs.List.{list_any}
use Rattle.std.specs.declared.cmp.Ordering.{Ordering}
use Rattle.std.proofs.lemmas.Bool.Decides.{nat_tests}
use Rattle.std.proofs.lemmas.List.{take-append-drop}
use Rattle.std.proofs.lemmas.List.Elements.{All-append, All-take, All-weaker}
use Rattle.std.proofs.lemmas.List.Folds.{list_any-append, list_any_none}
use Rattle.std.proofs.lemmas.List.Sums.{sum_by-take-drop}
use Rattle.std.proofs.lemmas.Option.{same_Some, none-some, slice_get_within, get_or_from_slice_get}
use Rattle.optra_network.specs.Net.{Net, IsProper}
use Rattle.optra_network.specs.declared.TypeId.{TypeId}
use Rattle.optra_bid.specs.declared.bids.Bid.{Bid}
use Rattle.optra_walk.specs.declared.Leg.{Leg}
use Rattle.optra_walk.specs.Families.{Rows, IsUsable, ListsRows}
use Rattle.optra_graph.specs.Timed.{leg_of}
use Rattle.optra_node.specs.declared.Decision.{Decision}
use Rattle.optra_node.specs.Nodes.{IsBlocked, has_yes, is_yes_for, uses_at, yes_load, others_load}
use Rattle.optra_node.specs.Spans.{Lets}
use Rattle.optra_node.proofs.LoadLemmas.{contains-map}
use Rattle.optra_node.proofs.OwnLemmas.{load_split}
use Rattle.optra_prices.specs.Allowing.{AreAtUnlessTold}
use Rattle.optra_prices.specs.Holders.{is_told}
use Rattle.optra_prices.specs.Standings.{IsBidTable, AreTables}
use Rattle.optra_prices.specs.Tables.{IsTouch, group_at}
use Rattle.optra_prices.specs.Tellings.{IsRowOf, TellsMoved}
use Rattle.optra_prices.specs.Terms.{Setting, setting}
use Rattle.optra_prices.specs.declared.arc_tables.ArcTables.{ArcTables}
use Rattle.optra_prices.specs.ArcTerms.{ArcTerm}
use Rattle.optra_prices.specs.declared.numbering.BidTable.{BidTable}
use Rattle.optra_prices.specs.declared.numbering.Groups.{Groups}
use Rattle.optra_prices.specs.declared.touch.Touch.{Touch}
use Rattle.optra_prices.proofs.RoomLemmas.{zip_second}
use Rattle.optra_prices.proofs.TermLemmas.{arc_usable}

contains_at : {X : Type 0} (xs : List X) (k : ℕ) (x : X) → slice_get xs k ≡ Some x → Contains xs x
contains_at xs k x at = (k, slice_get_within xs k x at, get_or_from_slice_get xs k x x at)

-- a decision of another bid is no yes for the bid
not_for : (number : ℕ) (d : Decision) → d.bid ≢ number → is_yes_for number d ≡ false
not_for number d apart = by d.yes
  where
    by : (b : Bool) → (b && nat_eq d.bid number) ≡ false
    by false = refl
    by true = grind (arith, nat_tests)

-- ---- what a node asks of a bid of which only the shared decisions are
module _ (number k : ℕ) (before node : List Decision) (shared : take k before ≡ take k node) (apart : All (λ (d : Decision). d.bid ≢ number) (drop k node)) where
  -- what the node before asks of the bid's decisions
  carry : (Q : Decision → Type 0) → All (λ (d : Decision). d.bid ≡ number → Q d) before → All (λ (d : Decision). d.bid ≡ number → Q d) node
  carry Q all =
      subst (All P) (take-append-drop k node)
      (All-append P (take k node) (drop k node) (subst (All P) shared (All-take P k before all)) (All-weaker (λ (d : Decision). d.bid ≢ number) P (λ d no own. absurd (no own)) (drop k node) apart))
    where
      P : Decision → Type 0
      P d = d.bid ≡ number → Q d

yes_first : (number k : ℕ) (node : List Decision) → All (λ (d : Decision). d.bid ≢ number) (drop k node) → has_yes node number ≡ has_yes (take k node) number
yes_first number k node apart =
    ap (list_any yes) (sym (take-append-drop k node)) ∙ list_any-append yes (take k node) (drop k node) ∙ ap (λ (b : Bool). list_any yes (take k node) || b) none ∙ or_false (list_any yes (take k node))
  where
    yes : Decision → Bool
    yes = is_yes_for number

    none : list_any yes (drop k node) ≡ false
    none = list_any_none yes (drop k node) (All-weaker (λ (d : Decision). d.bid ≢ number) (λ (d : Decision). yes d ≡ false) (not_for number) (drop k node) apart)

    or_false : (b : Bool) → (b || false) ≡ b
    or_false true = refl
    or_false false = refl

module _ {R : Type 0} (rows : Rows R) (bids : List Bid) (number k : ℕ) where
  -- what the others use of a row of which the later decisions use nothing
  others_first : (node : List Decision) (row : R) → yes_load rows bids (drop k node) row ≡ 0 → others_load rows bids node number row ≡ others_load rows bids (take k node) number row
  others_first node row none =
      let split = load_split rows bids number row (drop k node) in
      let sum = sum_by-take-drop (λ (d : Decision). cond (d.yes && not (nat_eq d.bid number)) (uses_at rows bids row d.bid d.leg) 0) node k in
      let rest : others_load rows bids (drop k node) number row ≡ 0 = omega arith in
      omega (arith, sum, rest)

  others_same : (before node : List Decision) (row : R) → take k before ≡ take k node → yes_load rows bids (drop k before) row ≡ 0 → yes_load rows bids (drop k node) row ≡ 0 → others_load rows bids before number row ≡ others_load rows bids node number row
  others_same before node row shared left entered = others_first before row left ∙ ap (λ (ds : List Decision). others_load rows bids ds number row) shared ∙ sym (others_first node row entered)

  -- a leg is blocked as it was
  blocked_same : (before node : List Decision) (kind : TypeId) (leg : Leg) → ((row : R) → 0 < rows.uses kind leg row → others_load rows bids before number row ≡ others_load rows bids node number row)
      → IsBlocked rows bids before number kind leg → IsBlocked rows bids node number kind leg
  blocked_same before node kind leg same (row, by) = (row, record { is_row = by.is_row; used = by.used; above = let e = same row by.used in let a = by.above in omega arith })

-- ---- tables of bids that the way to a node does not change
module _ {R : Type 0} (cmp : R → R → Ordering) (net : Net) (proper : IsProper net) (rows : Rows R) (used : TypeId → Leg → List R)
    (lists : (kind : TypeId) (leg : Leg) → IsUsable net kind leg → ListsRows cmp rows.is_row (rows.uses kind leg) (used kind leg)) (bids : List Bid) (before node : List Decision) (k : ℕ) (shared : take k before ≡ take k node) (numbered : List R) (groups : Groups) where
  -- the later decisions use nothing of the row
  abbrev Unused : R → Type 0
  Unused row = (yes_load rows bids (drop k before) row ≡ 0) × (yes_load rows bids (drop k node) row ≡ 0)

  module _ (number : ℕ) (bid : Bid) (table : BidTable) (apart_before : All (λ (d : Decision). d.bid ≢ number) (drop k before)) (apart_node : All (λ (d : Decision). d.bid ≢ number) (drop k node))
      (unused : (n : ℕ) (row : R) → slice_get numbered n ≡ Some row → IsRowOf groups table.arcs n → Unused row) (is : IsBidTable (setting net rows used bids before) number numbered groups bid table) where
    -- a row that a leg uses is one that its arc touches
    leg_unused : (j : ℕ) (leg : Leg) (arc : ArcTerm) → slice_get table.arcs j ≡ Some arc → leg_of table.graph.now j ≡ Some leg → (row : R) → 0 < rows.uses bid.path.kind leg row → Unused row
    leg_unused j leg arc at there row some =
        let w = slice_get_within table.arcs j arc at in
        let count = is.arcs_are.count in
        let usable = arc_usable net proper bid table.graph.now is.arcs_are.graph j leg (omega (arith, w, count)) there in
        let touches = group_at groups.starts.items groups.touches arc.group in
        let term = is.arcs_are.terms.legs_are j leg arc at there in
        let touch = zip_second (IsTouch numbered (rows.uses bid.path.kind leg)) touches (used bid.path.kind leg) term.group_is row (((lists bid.path.kind leg usable).used row).0 some) in
        unused touch.0.row row touch.2.number
        (record { group = arc.group; has = contains-map (λ (a : ArcTerm). a.group) table.arcs arc (contains_at table.arcs j arc at); touched = contains-map (λ (t : Touch). t.row) touches touch.0 touch.1 })

    others : (j : ℕ) (leg : Leg) (arc : ArcTerm) → slice_get table.arcs j ≡ Some arc → leg_of table.graph.now j ≡ Some leg → (row : R) → 0 < rows.uses bid.path.kind leg row → others_load rows bids before number row ≡ others_load rows bids node number row
    others j leg arc at there row some = let free = leg_unused j leg arc at there row some in others_same rows bids number k before node row shared free.0 free.1

    stays : IsBidTable (setting net rows used bids node) number numbered groups bid table
    stays = record {
      arcs_are = record {
        graph = is.arcs_are.graph;
        count = is.arcs_are.count;
        groups = is.arcs_are.groups;
        terms = is.arcs_are.terms;
        marks = record {
          starts_are = λ j minute arc at start.
              let was = is.arcs_are.marks.starts_are j minute arc at start in (
                (λ e. carry number k before node shared apart_node (λ (d : Decision). d.yes ≡ true → minute ≤ d.leg.depart) (was.0 e)),
                (λ ok. was.1 (carry number k node before (sym shared) apart_before (λ (d : Decision). d.yes ≡ true → minute ≤ d.leg.depart) ok)),
              );
          legs_are = λ j leg arc at there.
              let was = is.arcs_are.marks.legs_are j leg arc at there in
              let kind = bid.path.kind in
              let same = others j leg arc at there in (
                (λ e.
                    let ok = was.0 e in
                    record {
                      let_by = carry number k before node shared apart_node (λ (d : Decision). Lets net kind d leg) ok.let_by;
                      free = λ blocked. ok.free (blocked_same rows bids number k node before kind leg (λ row some. sym (same row some)) blocked);
                    }),
                (λ ok.
                    was.1
                    (record {
                      let_by = carry number k node before (sym shared) apart_before (λ (d : Decision). Lets net kind d leg) ok.let_by;
                      free = λ blocked. ok.free (blocked_same rows bids number k before node kind leg same blocked);
                    })),
              );
        };
        forced_is = is.arcs_are.forced_is ∙ yes_first number k before apart_before ∙ ap (λ (ds : List Decision). has_yes ds number) shared ∙ sym (yes_first number k node apart_node);
      };
      covers = is.covers;
    }

  -- the table of each bid that isn't told is at the node
  pub others_stay : (c : ArcTables R) → c.numbering.rows.items ≡ numbered → c.columns.groups ≡ groups → AreTables (setting net rows used bids before) (length bids) numbered groups c.tables.items
      → TellsMoved rows bids (drop k before) c → TellsMoved rows bids (drop k node) c → AreAtUnlessTold (setting net rows used bids node) numbered groups c.fallen.items c.tables.items
  others_stay c named grouped tables left entered number bid table told_at bid_at table_at =
      let w = slice_get_within c.fallen.items number false told_at in
      let untold : is_told c.fallen.items number ≡ false = get_or_from_slice_get c.fallen.items number false false told_at in
      let rows_named : (n : ℕ) (row : R) → slice_get numbered n ≡ Some row → slice_get c.numbering.rows.items n ≡ Some row = λ n row at. subst (λ (rs : List R). slice_get rs n ≡ Some row) (sym named) at in
      let row_of : (n : ℕ) → IsRowOf groups table.arcs n → IsRowOf c.columns.groups table.arcs n = λ n of. subst (λ (gs : Groups). IsRowOf gs table.arcs n) (sym grouped) of in
      stays number bid table (left.own number w untold) (entered.own number w untold)
      (λ n row at of. (left.apart number table table_at untold n row (rows_named n row at) (row_of n of), entered.apart number table table_at untold n row (rows_named n row at) (row_of n of)))
      (tables.each number bid table bid_at table_at)

-- where all bids are told there is no other
pub all_told : {R : Type 0} (s : Setting R) (numbered : List R) (groups : Groups) (told : List Bool) (tables : List BidTable) (count : ℕ) → told ≡ replicate count true → AreAtUnlessTold s numbered groups told tables
all_told s numbered groups told tables count is number bid table told_at bid_at table_at = absurd (never count number (sym (ap (λ (bs : List Bool). slice_get bs number) is) ∙ told_at))
  where
    never : (n k : ℕ) → slice_get (replicate n true) k ≡ Some false → ⊥
    never zero k e = none-some false e
    never (suc n) zero e = clash (same_Some true false e)
      where
        clash : true ≡ false → ⊥
        clash q = cc
    never (suc n) (suc k) e = never n k e
