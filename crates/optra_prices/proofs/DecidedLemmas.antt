-- The room beside the yes legs of a node that shares decisions with the one before.
use Rattle.std.proofs.Common.{◌≡◌, ℕ, ◌+◌, List, [], length, take, drop, sym, ap, ◌∙◌, subst}
use Rattle.std.specs.Prelude.{All}
use Rattle.std.specs.declared.cmp.Ordering.{Ordering}
use Rattle.std.proofs.lemmas.List.Elements.{All-nil}
use Rattle.std.proofs.lemmas.List.Sums.{sum_by-take-drop}
use Rattle.optra_network.specs.Net.{Net}
use Rattle.optra_network.specs.declared.TypeId.{TypeId}
use Rattle.optra_bid.specs.declared.bids.Bid.{Bid}
use Rattle.optra_walk.specs.declared.Leg.{Leg}
use Rattle.optra_walk.specs.Families.{Rows}
use Rattle.optra_node.specs.declared.Decision.{Decision}
use Rattle.optra_node.specs.Nodes.{IsFormedDecision, yes_uses, yes_load}
use Rattle.optra_prices.specs.Claims.{AreClaims}
use Rattle.optra_prices.specs.Courses.{IsCourse}
use Rattle.optra_prices.specs.Rooms.{IsRoom, IsDecided}
use Rattle.optra_prices.specs.Terms.{setting}
use Rattle.optra_prices.specs.declared.arc_tables.ArcTables.{ArcTables}
use Rattle.optra_prices.specs.declared.decided.Decided.{Decided}
use Rattle.optra_prices.specs.declared.rooms.Room.{Room}
use Rattle.optra_prices.proofs.RoomLemmas.{same_room}

module _ {R : Type 0} (rows : Rows R) (bids : List Bid) (numbered : List R) (k : ℕ) where
  -- what the shared decisions and the others use
  abbrev pub both_loads : List Decision → List Decision → R → ℕ
  both_loads old new row = yes_load rows bids (take k old) row + yes_load rows bids (drop k new) row

  -- all that is used is what the shared decisions and the others use
  pub room_parts : (node : List Decision) (room : Room) → IsRoom rows numbered (yes_load rows bids node) room → IsRoom rows numbered (both_loads node node) room
  room_parts node room is = same_room rows numbered (yes_load rows bids node) (both_loads node node) room (λ row. sym (sum_by-take-drop (yes_uses rows bids row) node k)) is

  pub room_whole : (old node : List Decision) (room : Room) → take k old ≡ take k node → IsRoom rows numbered (both_loads old node) room → IsRoom rows numbered (yes_load rows bids node) room
  room_whole old node room shared is =
      same_room rows numbered (both_loads old node) (yes_load rows bids node) room
      (λ row. ap (λ (ds : List Decision). yes_load rows bids ds row + yes_load rows bids (drop k node) row) shared ∙ sum_by-take-drop (yes_uses rows bids row) node k) is

-- no decision uses anything
pub none_decided : {R : Type 0} (net : Net) (rows : Rows R) (bids : List Bid) (numbered : List R) (node : List Decision) (decided : Decided) → node ≡ [] → decided.decisions.items ≡ [] → decided.claims.items ≡ [] → IsRoom rows numbered (λ row. 0) decided.room
    → IsDecided net rows bids numbered node decided
none_decided net rows bids numbered node decided none decisions claims room = record {
  decisions_are = decisions ∙ sym none;
  formed = subst (All (IsFormedDecision net (length bids))) (sym none) (All-nil (IsFormedDecision net (length bids)));
  claims_are = subst (λ (ds : List Decision). AreClaims rows bids numbered ds decided.claims.items) (sym none) (subst (AreClaims rows bids numbered []) (sym claims) tt);
  room_is = subst (λ (ds : List Decision). IsRoom rows numbered (yes_load rows bids ds) decided.room) (sym none) room;
}

-- what is kept is at the node whose decisions it holds
pub own_course : {R : Type 0} (cmp : R → R → Ordering) (net : Net) (rows : Rows R) (used : TypeId → Leg → List R) (bids : List Bid) (before : List Decision) (c : ArcTables R) → IsCourse cmp (setting net rows used bids before) c
    → IsCourse cmp (setting net rows used bids c.decided.decisions.items) c
own_course cmp net rows used bids before c course = subst (λ (ds : List Decision). IsCourse cmp (setting net rows used bids ds) c) (sym course.is.decided.decisions_are) course
