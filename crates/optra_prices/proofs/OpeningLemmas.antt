-- Tables at a root where there is room for each touch: each arc may be taken.
use Rattle.std.proofs.Common.{◌≡◌, ℕ, ◌+◌, ◌-◌, ◌<◌, true, All, List, [], length, drop, Some, slice_get, refl, sym, ap, ◌∙◌, subst}
use Rattle.std.specs.Prelude.{slice_index}
use Rattle.std.specs.declared.cmp.Ordering.{Ordering}
use Rattle.std.proofs.lemmas.List.Elements.{All-nil, All-take, All-drop}
use Rattle.std.proofs.lemmas.Option.{same_Some, slice_get_within}
use Rattle.optra_network.specs.Net.{Net, IsProper}
use Rattle.optra_network.specs.declared.TypeId.{TypeId}
use Rattle.optra_bid.specs.declared.bids.Bid.{Bid}
use Rattle.optra_walk.specs.declared.Leg.{Leg}
use Rattle.optra_walk.specs.Families.{Rows, IsUsable, ListsRows}
use Rattle.optra_node.specs.Nodes.{yes_load}
use Rattle.optra_prices.specs.Allowing.{IsOpen, IsTableAnew, IsTableFor, RoomTells}
use Rattle.optra_prices.specs.ArcTerms.{ArcTerm}
use Rattle.optra_prices.specs.Marks.{IsMark}
use Rattle.optra_prices.specs.Rooms.{IsDecided, HasRoomFor, HasRoomForAll, HasRoomOnHeld}
use Rattle.optra_prices.specs.Standings.{AreTables, HoldArcs}
use Rattle.optra_prices.specs.Tables.{AreTouches, IsTouch, group_at}
use Rattle.optra_prices.specs.Terms.{setting}
use Rattle.optra_prices.specs.declared.decided.Decided.{Decided}
use Rattle.optra_prices.specs.declared.numbering.BidTable.{BidTable}
use Rattle.optra_prices.specs.declared.numbering.Groups.{Groups}
use Rattle.optra_prices.specs.declared.touch.Touch.{Touch}
use Rattle.optra_prices.proofs.AllowLemmas.{arc_mark, free_mark, table_anew, table_tells}
use Rattle.optra_prices.proofs.ListLemmas.{all_at}
use Rattle.optra_prices.proofs.RoomLemmas.{zip_all}

module _ {R : Type 0} (cmp : R → R → Ordering) (net : Net) (proper : IsProper net) (rows : Rows R) (used : TypeId → Leg → List R)
    (lists : (kind : TypeId) (leg : Leg) → IsUsable net kind leg → ListsRows cmp rows.is_row (rows.uses kind leg) (used kind leg)) (bids : List Bid) (numbered : List R) (groups : Groups)
    (decided : Decided) (is : IsDecided net rows bids numbered [] decided) (free : HasRoomOnHeld decided.room groups.touches) where
  abbrev touches_in : ℕ → List Touch
  touches_in group = group_at groups.starts.items groups.touches group

  abbrev IsHeld : Touch → Type 0
  IsHeld touch = touch.row < length decided.room.loads.uses

  -- there is room for a group of rows that have numbers
  group_free : (uses : R → ℕ) (touched : List R) (group : ℕ) → AreTouches numbered uses (touches_in group) touched → HasRoomForAll decided.room (touches_in group)
  group_free uses touched group are =
      let start = slice_index groups.starts.items group in
      let end = slice_index groups.starts.items (group + 1) in
      let P = λ (touch : Touch). IsHeld touch → HasRoomFor decided.room touch in
      let room = All-take P (end - start) (drop start groups.touches) (All-drop P start groups.touches free) in
      let held = zip_all (IsTouch numbered uses) IsHeld (touches_in group) touched are
      (λ touch row some at. slice_get_within decided.room.loads.uses touch.row (yes_load rows bids [] row) (is.room_is.uses_are touch.row row at.number)) in
      λ k d l. room k d l (held k d l)

  module _ (number : ℕ) (table : BidTable) (for : IsTableFor net rows used bids numbered groups number table) (k : ℕ) (arc : ArcTerm) (at : slice_get table.arcs k ≡ Some arc) where
    tells : RoomTells rows bids [] number decided.room table.graph.now groups table.arcs
    tells = table_tells cmp net proper rows used lists bids [] number numbered decided.room is.room_is groups table for

    mark_by : HasRoomForAll decided.room (touches_in arc.group) → IsMark net rows bids [] number table.graph.now k true
    mark_by has =
        arc_mark net rows bids [] number decided.room table.graph.now groups table.arcs tells k arc (record { group = arc.group; has_room = true }) true at refl ((λ e. has), (λ all. refl))
        (free_mark net bids [] number table.graph.now k true refl refl)

    -- so an arc may be taken
    open_mark : IsMark net rows bids [] number table.graph.now k true
    open_mark = record {
      start_is = λ minute start.
          (mark_by (subst (HasRoomForAll decided.room) (sym (tells.starts_are k minute arc at start)) (All-nil (HasRoomFor decided.room)))).start_is minute start;
      leg_is = λ leg there.
          let bid = for.0 in
          let term = for.2.arcs_are.terms.legs_are k leg arc at there in
          (mark_by (group_free (rows.uses bid.path.kind leg) (used bid.path.kind leg) arc.group term.group_is)).leg_is leg there;
    }

  -- and a table all of whose arcs may be taken is at the root
  open_anew : (number : ℕ) (table : BidTable) → IsTableFor net rows used bids numbered groups number table → IsOpen table → IsTableAnew net rows bids [] number table table
  open_anew number table for opened = record {
    graph = refl;
    most = refl;
    arcs = record {
      count_is = refl;
      each = λ k before after at after_at.
          let e = same_Some before after (sym at ∙ after_at) in
          let allowed = all_at (λ (a : ArcTerm). a.allowed ≡ true) table.arcs k after opened.arcs after_at in
          record {
            value_is = ap (λ (a : ArcTerm). a.value) (sym e);
            group_is = ap (λ (a : ArcTerm). a.group) (sym e);
            mark = subst (IsMark net rows bids [] number table.graph.now k) (sym allowed) (open_mark number table for k before at);
          };
    };
    forced_is = opened.forced_is;
  }

  -- and so are all tables of this kind
  pub open_tables : (tables : List BidTable) → HoldArcs net rows used bids (length bids) numbered groups tables → All IsOpen tables → AreTables (setting net rows used bids []) (length bids) numbered groups tables
  open_tables tables hold opened = record {
    count_is = hold.count_is;
    each = λ number bid table bid_at at.
        let is_for = hold.each number bid table bid_at at in
        table_anew net rows used bids [] numbered groups number bid bid_at table table (open_anew number table (bid, bid_at, is_for) (all_at IsOpen tables number table opened at)) is_for;
  }
