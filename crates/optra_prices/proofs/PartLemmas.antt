-- The parts of the arcs of a bid's table.
use Rattle.std.proofs.Common.{◌≡◌, ℕ, ◌+◌, ◌<◌, Bool, true, false, List, [], ◌∷◌, ◌++◌, length, replicate, Some, slice_get, refl, sym, ap, ◌∙◌, subst, arith, inl, inr}
use Rattle.std.specs.Prelude.{◌↔◌, ◌&&◌, All, IsTrue}
use Rattle.std.specs.declared.cmp.Ordering.{Ordering}
use Rattle.std.proofs.lemmas.List.{length-append}
use Rattle.std.proofs.lemmas.List.Elements.{All-nil, All-from_get_or}
use Rattle.std.proofs.lemmas.Option.{same_Some, slice_get-get_or, slice_get_within}
use Rattle.optra_network.specs.Net.{Net, IsProper}
use Rattle.optra_network.specs.declared.TypeId.{TypeId}
use Rattle.optra_bid.specs.declared.bids.Bid.{Bid}
use Rattle.optra_walk.specs.declared.Leg.{Leg}
use Rattle.optra_walk.specs.Families.{Rows, IsUsable, ListsRows}
use Rattle.optra_graph.specs.Timed.{Timed}
use Rattle.optra_node.specs.declared.Decision.{Decision}
use Rattle.optra_prices.specs.Arcs.{IsArcValue}
use Rattle.optra_prices.specs.Parts.{no_part, part_at, IsPart, AreParts, IsPartOf, ArePartsOf}
use Rattle.optra_prices.specs.Rooms.{IsRoom, HasRoomFor, HasRoomForAll, IsFreeCopy}
use Rattle.optra_prices.specs.Tables.{group_at}
use Rattle.optra_prices.specs.Terms.{setting, AreBidArcs}
use Rattle.optra_prices.specs.ArcTerms.{ArcTerm}
use Rattle.optra_prices.specs.declared.touch.Touch.{Touch}
use Rattle.optra_prices.specs.declared.parts.ArcPart.{ArcPart}
use Rattle.optra_prices.specs.declared.rooms.Room.{Room}
use Rattle.optra_prices.proofs.ListLemmas.{some_at, all_at}
use Rattle.optra_prices.proofs.NumberLemmas.{push_cases}
use Rattle.optra_prices.proofs.RoomLemmas.{room_tells, zero_at}
use Rattle.optra_prices.proofs.TermLemmas.{arc_usable}

-- there is room for nothing
pub room_for_none : (room : Room) (touches : List Touch) → touches ≡ [] → HasRoomForAll room touches
room_for_none room touches none = subst (HasRoomForAll room) (sym none) (All-nil (HasRoomFor room))

module _ (room : Room) (starts : List ℕ) (touches : List Touch) (arcs : List ArcTerm) where
  -- one more part
  pub parts_more : (n : ℕ) (parts : List ArcPart) (arc : ArcTerm) (part : ArcPart) → ArePartsOf room starts touches arcs n parts → slice_get arcs n ≡ Some arc → IsPartOf room (group_at starts touches arc.group) arc part
      → ArePartsOf room starts touches arcs (n + 1) (parts ++ part ∷ [])
  parts_more n parts arc part are at is = record {
    count_is = let c = are.count_is in omega (arith, length-append parts (part ∷ []));
    each = λ k a p a_at p_at. elim (push_cases parts part k p p_at) as (λ _. IsPartOf room (group_at starts touches a.group) a p) [
      | inl old ↦ are.each k a p a_at old
      | inr new ↦
          let here : k ≡ n = new.0 ∙ are.count_is in
          let same : arc ≡ a = same_Some arc a (sym at ∙ ap (slice_get arcs) (sym here) ∙ a_at) in
          subst (λ (x : ArcTerm). IsPartOf room (group_at starts touches x.group) x p) same (subst (IsPartOf room (group_at starts touches arc.group) arc) new.1 is)
    ];
  }

module _ {R : Type 0} (cmp : R → R → Ordering) (net : Net) (proper : IsProper net) (rows : Rows R) (used : TypeId → Leg → List R)
    (lists : (kind : TypeId) (leg : Leg) → IsUsable net kind leg → ListsRows cmp rows.is_row (rows.uses kind leg) (used kind leg)) (bids : List Bid) (node : List Decision) (number : ℕ) (bid : Bid) (t : Timed) (numbered : List R)
    (arcs : List ArcTerm) (starts : List ℕ) (touches : List Touch) (forced : Bool) (are : AreBidArcs (setting net rows used bids node) number bid t numbered arcs starts touches forced)
    (total : R → ℕ) (room : Room) (is_room : IsRoom rows numbered total room) (parts : List ArcPart) (told : ArePartsOf room starts touches arcs (length arcs) parts) where
  part_is : (k : ℕ) → k < length t.dag.arcs → IsPart net rows bids node total number bid t k (part_at parts k)
  part_is k l =
      let count = are.count in
      let arc = some_at arcs k (omega arith) in
      let part = part_at parts k in
      let long = told.count_is in
      let is = told.each k arc.0 part arc.1 (slice_get-get_or parts k no_part (omega arith)) in
      record {
        start_allowed = λ minute start.
            let term = are.terms.starts_are k minute arc.0 arc.1 start in
            let mark = are.marks.starts_are k minute arc.0 arc.1 start in
            ((λ e. mark.0 (is.allowed.0 e).0), (λ ok. is.allowed.1 (mark.1 ok, room_for_none room (group_at starts touches arc.0.group) term.group_is)));
        start_is = λ minute start. is.value_is ∙ (are.terms.starts_are k minute arc.0 arc.1 start).value_is;
        leg_allowed = λ leg there.
            let term = are.terms.legs_are k leg arc.0 arc.1 there in
            let mark = are.marks.legs_are k leg arc.0 arc.1 there in
            let law = lists bid.path.kind leg (arc_usable net proper bid t are.graph k leg l there) in
            let tells = room_tells cmp rows numbered total room is_room (group_at starts touches arc.0.group) bid.path.kind leg (used bid.path.kind leg) term.group_is law in
            ((λ e. let both = is.allowed.0 e in (mark.0 both.0, tells.0 both.1)), (λ both. is.allowed.1 (mark.1 both.0, tells.1 both.1)));
        leg_is = λ leg there. is.value_is ∙ (are.terms.legs_are k leg arc.0 arc.1 there).value_is;
        range = subst IsArcValue (sym is.value_is) (all_at (λ (a : ArcTerm). IsArcValue a.value) arcs k arc.0 are.terms.values arc.1);
      }

  -- the parts of a table's arcs are those of the graph's
  pub parts_are : AreParts net rows bids node total number bid t (length t.dag.arcs) parts
  parts_are = record { count = told.count_is ∙ are.count; each = part_is }

-- each part is in range
pub parts_range : {R : Type 0} (net : Net) (rows : Rows R) (bids : List Bid) (node : List Decision) (total : R → ℕ) (number : ℕ) (bid : Bid) (t : Timed) (n : ℕ) (parts : List ArcPart) → AreParts net rows bids node total number bid t n parts
    → All (λ (part : ArcPart). IsArcValue part.value) parts
parts_range net rows bids node total number bid t n parts are = All-from_get_or (λ (part : ArcPart). IsArcValue part.value) parts no_part (λ k l. let c = are.count in (are.each k (omega arith)).range)

-- the part of an arc, by whether there is room for what it touches
pub part_told : (room : Room) (touches : List Touch) (arc : ArcTerm) (part : ArcPart) (fits : Bool) → part.value ≡ arc.value → part.allowed ≡ (arc.allowed && fits) → IsTrue fits ↔ HasRoomForAll room touches → IsPartOf room touches arc part
part_told room touches arc part fits value allowed tells = record {
  value_is = value;
  allowed = (
    (λ e. let b = both arc.allowed fits (sym allowed ∙ e) in (b.0, tells.0 b.1)),
    (λ h. allowed ∙ ap (λ (a : Bool). a && fits) h.0 ∙ tells.1 h.1),
  );
}
  where
    both : (a b : Bool) → (a && b) ≡ true → (a ≡ true) × (b ≡ true)
    both true true e = (refl, refl)
    both true false e = cc
    both false b e = cc

-- of a free copy of a room nothing is used
pub free_is : {R : Type 0} (rows : Rows R) (numbered : List R) (total : R → ℕ) (room copy : Room) → IsRoom rows numbered total room → IsFreeCopy room copy → IsRoom rows numbered (λ row. 0) copy
free_is rows numbered total room copy is free = record {
  uses_are = λ n row at. ap (λ (us : List ℕ). slice_get us n) free.uses_are ∙ zero_at (length room.loads.uses) n (slice_get_within room.loads.uses n (total row) (is.uses_are n row at));
  capacities_are = λ n row at. ap (λ (cs : List ℕ). slice_get cs n) free.capacities_are ∙ is.capacities_are n row at;
}
