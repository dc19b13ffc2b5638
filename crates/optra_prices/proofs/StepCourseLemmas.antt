-- Prices that a step has moved, and the rows that are overfilled, by the uses of the replies.
use Rattle.std.proofs.Common.{◌≡◌, ℕ, ◌<◌, true, List, length, Option, Some, None, slice_get, refl, sym, ap, ◌∙◌, arith}
use Rattle.std.specs.Prelude.{All, Contains, ℤ, pos, ◌≤ℤ◌, slice_index, slice_index_or}
use Rattle.std.specs.declared.cmp.Ordering.{Ordering}
use Rattle.std.specs.Ordering.{eq_by_cmp}
use Rattle.std.specs.Cmp.{IsTotalOrder}
use Rattle.std.proofs.lemmas.List.Elements.{All-weaker}
use Rattle.std.proofs.lemmas.Option.{none-some, slice_get_within, get_or_from_slice_get}
use Rattle.optra_network.specs.Net.{IsProper}
use Rattle.optra_network.specs.declared.TypeId.{TypeId}
use Rattle.optra_walk.specs.declared.Leg.{Leg}
use Rattle.optra_walk.specs.Families.{IsUsable, ListsRows, TellsApart}
use Rattle.optra_node.specs.Duals.{price_of}
use Rattle.optra_prices.specs.Courses.{listed, prices_at, replies_at, AreSetUp}
use Rattle.optra_prices.specs.Levels.{MovesTo, next_at, use_of, capacity_of}
use Rattle.optra_prices.specs.Overfull.{AreOverfilled, IsRowAbove, ListsAbove}
use Rattle.optra_prices.specs.Steps.{IsStep, step_length, next_price, reply_load}
use Rattle.optra_prices.specs.Standings.{IsSound}
use Rattle.optra_prices.specs.Tables.{IsRowPrice, AreUp, number_in}
use Rattle.optra_prices.specs.Terms.{Setting}
use Rattle.optra_prices.specs.Uses.{AreUses, lists_of}
use Rattle.optra_prices.specs.declared.arc_tables.ArcTables.{ArcTables}
use Rattle.optra_prices.specs.declared.levels.Levels.{Levels}
use Rattle.optra_prices.proofs.CourseLemmas.{numbered_once}
use Rattle.optra_prices.proofs.HoldLemmas.{next_none}
use Rattle.optra_prices.proofs.ListLemmas.{all_at}
use Rattle.optra_prices.proofs.ListingLemmas.{listed_proper, price_numbered, price_unnumbered}
use Rattle.optra_prices.proofs.LoadingLemmas.{uses_load, no_load}
use Rattle.optra_prices.proofs.TableLemmas.{tables_sound}

module _ {R : Type 0} (cmp : R → R → Ordering) (total : IsTotalOrder cmp) (apart : TellsApart cmp) (s : Setting R) (proper : IsProper s.net)
    (lists : (kind : TypeId) (leg : Leg) → IsUsable s.net kind leg → ListsRows cmp s.rows.is_row (s.rows.uses kind leg) (s.used kind leg)) (c : ArcTables R) (is : AreSetUp cmp s c) where
  sound : All IsSound c.tables.items
  sound = tables_sound s c.numbering.rows.items c.columns.groups c.tables.items is.tables

  -- a row without a number is not used by the replies
  no_uses : (row : R) → number_in cmp c.numbering.order.items row ≡ None → reply_load s.rows s.bids (replies_at c) row ≡ 0
  no_uses row e =
      no_load cmp total apart s proper lists c.numbering.rows.items c.columns.groups c.tables.items c.columns.grouped.items c.standings.items is.tables sound is.stand row (λ n at. none-some n (sym e ∙ is.numbering.known n row at))

  module _ (l : Levels) (same_prices : l.prices ≡ c.levels.prices) (same_capacities : l.loads.capacities ≡ c.levels.loads.capacities) (use_count : length l.loads.uses ≡ length l.prices.items)
      (uses : AreUses c.columns.groups (lists_of c.standings.items) l.loads.uses) (n : ℕ) (row : R) (at : slice_get c.numbering.rows.items n ≡ Some row) where
    -- so much is used of a row with a number as the replies use
    used_at : use_of l n ≡ reply_load s.rows s.bids (replies_at c) row
    used_at =
        let within = slice_get_within c.numbering.rows.items n row at in
        let count = is.price_count in
        let here : length l.prices.items ≡ length c.levels.prices.items = ap (λ v. length v.items) same_prices in
        let counted = uses n (omega arith) in
        let load = uses_load cmp total apart s proper lists c.numbering.rows.items c.columns.groups c.tables.items c.columns.grouped.items c.standings.items is.tables sound is.stand (numbered_once cmp c is.numbering) n row at in
        omega arith

    -- its capacity
    room_at : capacity_of l n ≡ s.rows.capacity row
    room_at = ap (λ (cs : List ℕ). slice_index cs n) same_capacities ∙ get_or_from_slice_get c.levels.loads.capacities n (s.rows.capacity row) 0 (is.capacities n row at)

  -- the rows of which more is used than their capacity are those that the replies overfill
  pub overfilled : (l : Levels) → l.prices ≡ c.levels.prices → l.loads.capacities ≡ c.levels.loads.capacities → length l.loads.uses ≡ length l.prices.items → AreUses c.columns.groups (lists_of c.standings.items) l.loads.uses
      → (listed : List R) → ListsAbove c.numbering.rows.items l listed → AreOverfilled s.rows s.bids (replies_at c) listed
  overfilled l same_prices same_capacities use_count uses listed are = record {
    sound = All-weaker (IsRowAbove c.numbering.rows.items l) (λ row. (s.rows.is_row row ≡ true) × (s.rows.capacity row < reply_load s.rows s.bids (replies_at c) row))
        (λ row (n, at, above).
        let used = used_at l same_prices same_capacities use_count uses n row at in
        let room = room_at l same_prices same_capacities use_count uses n row at in
        (all_at (λ other. s.rows.is_row other ≡ true) c.numbering.rows.items n row is.rows at, omega arith)) listed are.sound;
    whole = λ row is_row above. by row above (number_in cmp c.numbering.order.items row) refl;
  }
    where
      by : (row : R) → s.rows.capacity row < reply_load s.rows s.bids (replies_at c) row → (o : Option ℕ) → number_in cmp c.numbering.order.items row ≡ o → Contains listed row
      by row above None e = let none = no_uses row e in absurd (omega arith)
      by row above (Some n) e =
          let at = is.numbering.found row n e in
          let used = used_at l same_prices same_capacities use_count uses n row at in
          let room = room_at l same_prices same_capacities use_count uses n row at in
          are.whole row (n, at, omega arith)

  -- prices that are moved by the uses of the replies are those of the step
  pub step_made : AreUp cmp c.numbering.order.items → (k : ℕ) (by : ℤ) → by ≡ step_length s.bids k → pos 1 ≤ℤ by → (l moved : Levels) → l.prices ≡ c.levels.prices → l.loads.capacities ≡ c.levels.loads.capacities
      → length l.loads.uses ≡ length l.prices.items → AreUses c.columns.groups (lists_of c.standings.items) l.loads.uses → All IsRowPrice moved.prices.items → MovesTo (next_at by l) l moved
      → IsStep cmp s.rows s.bids (replies_at c) k (prices_at c) (listed c.numbering.order.items moved.prices.items)
  step_made ordered k by by_is low l moved same_prices same_capacities use_count uses range moves =
      record {
        proper = listed_proper cmp total apart s.rows c.numbering.order.items rows is.numbering is.rows ordered new range;
        each = λ row is_row. at_row row (number_in cmp c.numbering.order.items row) refl ∙ ap (λ (z : ℤ). next_price z (price_of (eq_by_cmp cmp) (listed c.numbering.order.items c.levels.prices.items) row) (reply_load s.rows s.bids (replies_at c) row) (s.rows.capacity row)) by_is;
      }
    where
      rows : List R
      rows = c.numbering.rows.items

      new : List ℤ
      new = moved.prices.items

      at_row : (row : R) (o : Option ℕ) → number_in cmp c.numbering.order.items row ≡ o
          → price_of (eq_by_cmp cmp) (listed c.numbering.order.items new) row
          ≡ next_price by (price_of (eq_by_cmp cmp) (listed c.numbering.order.items c.levels.prices.items) row) (reply_load s.rows s.bids (replies_at c) row) (s.rows.capacity row)
      at_row row None e =
          let old_price = price_unnumbered cmp total apart s.rows c.numbering.order.items rows is.numbering is.rows ordered c.levels.prices.items is.levels.range row e in
          price_unnumbered cmp total apart s.rows c.numbering.order.items rows is.numbering is.rows ordered new range row e
          ∙ sym (ap (λ (z : ℤ). next_price by z (reply_load s.rows s.bids (replies_at c) row) (s.rows.capacity row)) old_price
          ∙ ap (λ (m : ℕ). next_price by (pos 0) m (s.rows.capacity row)) (no_uses row e)
          ∙ next_none by (s.rows.capacity row) low)
      at_row row (Some n) e =
          let at = is.numbering.found row n e in
          let within : n < length rows = slice_get_within rows n row at in
          let count = is.price_count in
          let here : length l.prices.items ≡ length c.levels.prices.items = ap (λ v. length v.items) same_prices in
          let old_price = price_numbered cmp total apart s.rows c.numbering.order.items rows is.numbering is.rows ordered c.levels.prices.items is.levels.range n row at in
          let used = used_at l same_prices same_capacities use_count uses n row at in
          let room = room_at l same_prices same_capacities use_count uses n row at in
          let old : slice_index_or l.prices.items n (pos 0) ≡ slice_index_or c.levels.prices.items n (pos 0) = ap (λ v. slice_index_or v.items n (pos 0)) same_prices in
          price_numbered cmp total apart s.rows c.numbering.order.items rows is.numbering is.rows ordered new range n row at
          ∙ moves.each n (omega arith)
          ∙ ap (λ (z : ℤ). next_price by z (slice_index l.loads.uses n) (slice_index l.loads.capacities n)) (old ∙ sym old_price)
          ∙ ap (λ (m : ℕ). next_price by (price_of (eq_by_cmp cmp) (listed c.numbering.order.items c.levels.prices.items) row) m (slice_index l.loads.capacities n)) used
          ∙ ap (λ (m : ℕ). next_price by (price_of (eq_by_cmp cmp) (listed c.numbering.order.items c.levels.prices.items) row) (reply_load s.rows s.bids (replies_at c) row) m) room
