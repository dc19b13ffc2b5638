-- Tables that are made one after the other, with the groups that they share.
use Rattle.std.proofs.Common.{◌≡◌, ℕ, zero, suc, ◌+◌, List, [], ◌∷◌, ◌++◌, length, get_or, Some, slice_get, sym, ap, ◌∙◌, subst, arith, inl, inr}
use Rattle.std.specs.Prelude.{All}
use Rattle.std.proofs.lemmas.List.{length-append}
use Rattle.std.proofs.lemmas.Option.{none-some, same_Some}
use Rattle.optra_network.specs.Net.{Net}
use Rattle.optra_network.specs.declared.TypeId.{TypeId}
use Rattle.optra_bid.specs.declared.bids.Bid.{Bid}
use Rattle.optra_walk.specs.declared.Leg.{Leg}
use Rattle.optra_walk.specs.Families.{Rows}
use Rattle.optra_node.specs.declared.Decision.{Decision}
use Rattle.optra_prices.specs.Standings.{IsSound, IsArcTable, HoldArcs, IsBidTable, AreTables}
use Rattle.optra_prices.specs.Tables.{Extends, AreGroups, KeepsGroups}
use Rattle.optra_prices.specs.Terms.{Setting, setting}
use Rattle.optra_prices.specs.declared.numbering.BidTable.{BidTable}
use Rattle.optra_prices.specs.declared.numbering.Groups.{Groups}
use Rattle.optra_prices.proofs.ListLemmas.{some_at}
use Rattle.optra_prices.proofs.NumberLemmas.{push_cases}
use Rattle.optra_prices.proofs.TermLemmas.{terms_kept, groups_stay}

-- what stands at a place
got : (xs : List BidTable) (k : ℕ) (d x : BidTable) → slice_get xs k ≡ Some x → get_or xs k d ≡ x
got [] k d x e = absurd (none-some x e)
got (y ∷ xs) zero d x e = same_Some y x e
got (y ∷ xs) (suc k) d x e = got xs k d x e

module _ {R : Type 0} (net : Net) (rows : Rows R) (used : TypeId → Leg → List R) (bids : List Bid) where
  -- the arcs serve while rows get numbers and groups are added
  pub arcs_kept : (numbered after : List R) (groups grown : Groups) → Extends numbered after → KeepsGroups groups.starts.items groups.touches grown.starts.items grown.touches → AreGroups grown.starts.items grown.touches
      → (bid : Bid) (table : BidTable) → IsArcTable net rows used numbered groups bid table → IsArcTable net rows used after grown bid table
  arcs_kept numbered after groups grown extends keeps are bid table is = record {
    arcs_are = record {
      graph = is.arcs_are.graph;
      count = is.arcs_are.count;
      groups = are;
      terms = terms_kept net rows used bid table.graph.now numbered after groups.starts.items grown.starts.items groups.touches grown.touches table.arcs extends keeps is.arcs_are.terms;
    };
    covers = is.covers;
  }

  pub arcs_push : (n : ℕ) (numbered after : List R) (groups grown : Groups) (tables : List BidTable) (bid : Bid) (table : BidTable) → HoldArcs net rows used bids n numbered groups tables → Extends numbered after
      → KeepsGroups groups.starts.items groups.touches grown.starts.items grown.touches → AreGroups grown.starts.items grown.touches → slice_get bids n ≡ Some bid → IsArcTable net rows used after grown bid table
      → HoldArcs net rows used bids (n + 1) after grown (tables ++ table ∷ [])
  arcs_push n numbered after groups grown tables bid table are extends keeps groups_are at is = record {
    count_is = let c = are.count_is in let l = length-append tables (table ∷ []) in omega arith;
    each = λ number b x b_at x_at. elim (push_cases tables table number x x_at) as (λ _. IsArcTable net rows used after grown b x) [
      | inl old ↦ arcs_kept numbered after groups grown extends keeps groups_are b x (are.each number b x b_at old)
      | inr new ↦
          let c = are.count_is in
          let place : n ≡ number = sym (new.0 ∙ c) in
          let same_bid : bid ≡ b = same_Some bid b (sym at ∙ ap (slice_get bids) place ∙ b_at) in
          subst (λ (y : BidTable). IsArcTable net rows used after grown b y) new.1 (subst (λ (c : Bid). IsArcTable net rows used after grown c table) same_bid is)
    ];
  }

  -- what a table has at a node is what it has at all nodes, and its marks
  pub table_holds : (node : List Decision) (number : ℕ) (numbered : List R) (groups : Groups) (bid : Bid) (table : BidTable) → IsBidTable (setting net rows used bids node) number numbered groups bid table → IsArcTable net rows used numbered groups bid table
  table_holds node number numbered groups bid table is = record { arcs_are = record { graph = is.arcs_are.graph; count = is.arcs_are.count; groups = is.arcs_are.groups; terms = is.arcs_are.terms }; covers = is.covers }

  -- tables at a node have what is the same at all nodes
  pub tables_hold : (node : List Decision) (count : ℕ) (numbered : List R) (groups : Groups) (tables : List BidTable) → AreTables (setting net rows used bids node) count numbered groups tables → HoldArcs net rows used bids count numbered groups tables
  tables_hold node count numbered groups tables are = record { count_is = are.count_is; each = λ number bid table b t. table_holds node number numbered groups bid table (are.each number bid table b t) }

module _ {R : Type 0} (s : Setting R) where
  -- a table serves while rows get numbers
  pub table_kept : (numbered after : List R) (groups : Groups) → Extends numbered after → (number : ℕ) (bid : Bid) (table : BidTable) → IsBidTable s number numbered groups bid table → IsBidTable s number after groups bid table
  table_kept numbered after groups extends number bid table is = record {
    arcs_are = record {
      graph = is.arcs_are.graph;
      count = is.arcs_are.count;
      groups = is.arcs_are.groups;
      terms = terms_kept s.net s.rows s.used bid table.graph.now numbered after groups.starts.items groups.starts.items groups.touches groups.touches table.arcs extends
          (groups_stay groups.starts.items groups.touches) is.arcs_are.terms;
      marks = is.arcs_are.marks;
      forced_is = is.arcs_are.forced_is;
    };
    covers = is.covers;
  }

  -- each table is sound
  pub tables_sound : (numbered : List R) (groups : Groups) (tables : List BidTable) → AreTables s (length s.bids) numbered groups tables → All IsSound tables
  tables_sound numbered groups tables are k d l =
      let c = are.count_is in
      let b = some_at s.bids k (omega arith) in
      let t = some_at tables k l in
      let is = are.each k b.0 t.0 b.1 t.1 in
      let here : IsSound t.0 = record { count = sym is.arcs_are.count; forward = is.arcs_are.graph.laid_out.forward; values = is.arcs_are.terms.values; covers = is.covers } in
      subst IsSound (sym (got tables k d t.0 t.1)) here
