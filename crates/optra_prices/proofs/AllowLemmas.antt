-- Tables of arcs that are brought to a node, arc by arc and bid by bid.
use Rattle.std.proofs.Common.{◌≡◌, ◌≢◌, ℕ, ◌+◌, ◌≤◌, ◌<◌, Bool, true, false, List, [], length, set, get_or, Option, Some, slice_get, unwrap_or, refl, sym, ap, ◌∙◌, subst, arith, inl, inr, ℤ}
use Rattle.std.specs.Prelude.{◌↔◌, ◌||◌, ◌⊎◌, All, neg_ℤ}
use Rattle.std.specs.declared.cmp.Ordering.{Ordering}
use Rattle.std.proofs.lemmas.Bool.{cases_eq}
use Rattle.std.proofs.lemmas.List.{get_or-set_other}
use Rattle.std.proofs.lemmas.List.Elements.{All-nil, All-weaker}
use Rattle.std.proofs.lemmas.Option.{same_Some, slice_get_within, slice_get-get_or, unwrap_or-slice_get}
use Rattle.optra_network.specs.Net.{Net, IsProper}
use Rattle.optra_network.specs.declared.TypeId.{TypeId}
use Rattle.optra_bid.specs.Specs.{IsBetween}
use Rattle.optra_bid.specs.declared.bids.Bid.{Bid}
use Rattle.optra_walk.specs.declared.Leg.{Leg}
use Rattle.optra_walk.specs.Families.{Rows, IsUsable, ListsRows}
use Rattle.optra_graph.specs.Timed.{Timed, IsGraphOf, leg_of}
use Rattle.optra_node.specs.declared.Decision.{Decision}
use Rattle.optra_node.specs.Nodes.{IsBlocked, kind_at, yes_load, others_load}
use Rattle.optra_node.specs.Spans.{Lets, IsLetBy, IsLegOk}
use Rattle.optra_node.specs.OwnDecisions.{decisions_for, AreAt}
use Rattle.optra_node.proofs.OwnLemmas.{all_for, load_split}
use Rattle.optra_prices.specs.Allowing.{IsToldAnew, AreToldAnew, IsTableAnew, IsTableFor, RoomTells, IsLetMark}
use Rattle.optra_prices.specs.Arcs.{IsArcValue}
use Rattle.optra_prices.specs.Claims.{AreClaims, placed_uses}
use Rattle.optra_prices.specs.Keepings.{IsBrought, AreBrought}
use Rattle.optra_prices.specs.Marks.{IsMark}
use Rattle.optra_prices.specs.Rooms.{IsTold, IsRoom, HasRoomFor, HasRoomForAll}
use Rattle.optra_prices.specs.Tables.{Extends, AreTouches, group_at, no_arc}
use Rattle.optra_prices.specs.Terms.{Setting, setting, AreTerms, AreMarked}
use Rattle.optra_prices.specs.Standings.{Covers, IsArcTable, HoldArcs, IsBidTable, AreTables}
use Rattle.optra_prices.specs.Uses.{AddsUses, TakesUses}
use Rattle.optra_prices.specs.declared.claims.Claim.{Claim}
use Rattle.optra_prices.specs.declared.rooms.Told.{Told}
use Rattle.optra_prices.specs.ArcTerms.{ArcTerm}
use Rattle.optra_prices.specs.declared.numbering.BidTable.{BidTable}
use Rattle.optra_prices.specs.declared.numbering.Groups.{Groups}
use Rattle.optra_prices.specs.declared.touch.Touch.{Touch}
use Rattle.optra_prices.specs.declared.rooms.Room.{Room}
use Rattle.optra_prices.proofs.ListLemmas.{some_at, all_at}
use Rattle.optra_prices.proofs.ClaimLemmas.{placed_load}
use Rattle.optra_prices.proofs.RoomLemmas.{same_room, room_free, room_adds, room_takes}
use Rattle.optra_prices.proofs.StandLemmas.{set_same, set_other, set_length}
use Rattle.optra_prices.proofs.TableLemmas.{table_kept}
use Rattle.optra_prices.proofs.TermLemmas.{arc_usable, kind_is, no_start}

-- ---- the room without and with what a bid's own decisions use
module _ {R : Type 0} (rows : Rows R) (bids : List Bid) (numbered : List R) (node : List Decision) (claims : List Claim) (are : AreClaims rows bids numbered node claims)
    (number : ℕ) (places : List ℕ) (own : AreAt node places (decisions_for node number)) where
  -- what all yes legs use is what those of the others and the bid's own use
  abbrev both : R → ℕ
  both row = others_load rows bids node number row + yes_load rows bids (decisions_for node number) row

  own_load : (n : ℕ) (row : R) → slice_get numbered n ≡ Some row → placed_uses claims places n ≡ yes_load rows bids (decisions_for node number) row
  own_load n row at = placed_load rows bids numbered n row at node claims are places (decisions_for node number) own

  pub room_without : (old new : Room) → IsRoom rows numbered (yes_load rows bids node) old → TakesUses (placed_uses claims places) old.loads.uses new.loads.uses → new.loads.capacities ≡ old.loads.capacities → IsRoom rows numbered (others_load rows bids node number) new
  room_without old new is =
      room_takes rows numbered (placed_uses claims places) (others_load rows bids node number) (yes_load rows bids (decisions_for node number)) own_load old new
      (same_room rows numbered (yes_load rows bids node) both old (λ row. load_split rows bids number row node) is)

  pub room_with : (old new : Room) → IsRoom rows numbered (others_load rows bids node number) old → AddsUses (placed_uses claims places) old.loads.uses new.loads.uses → new.loads.capacities ≡ old.loads.capacities → IsRoom rows numbered (yes_load rows bids node) new
  room_with old new is adds kept =
      same_room rows numbered both (yes_load rows bids node) new (λ row. sym (load_split rows bids number row node))
      (room_adds rows numbered (placed_uses claims places) (others_load rows bids node number) (yes_load rows bids (decisions_for node number)) own_load old new is adds kept)

-- ---- what the room tells of a table's arcs
module _ {R : Type 0} (cmp : R → R → Ordering) (net : Net) (proper : IsProper net) (rows : Rows R) (used : TypeId → Leg → List R)
    (lists : (kind : TypeId) (leg : Leg) → IsUsable net kind leg → ListsRows cmp rows.is_row (rows.uses kind leg) (used kind leg)) (bids : List Bid) (node : List Decision) (number : ℕ) (numbered : List R) (room : Room)
    (is : IsRoom rows numbered (others_load rows bids node number) room) (groups : Groups) (table : BidTable) where
  pub table_tells : IsTableFor net rows used bids numbered groups number table → RoomTells rows bids node number room table.graph.now groups table.arcs
  table_tells (bid, here, at) = record {
    count = at.arcs_are.count;
    groups_are = at.arcs_are.groups;
    within = at.arcs_are.terms.within;
    starts_are = λ k minute arc arc_at start. (at.arcs_are.terms.starts_are k minute arc arc_at start).group_is;
    legs_are = λ k leg arc arc_at there.
        let within = slice_get_within table.arcs k arc arc_at in
        let count = at.arcs_are.count in
        let usable = arc_usable net proper bid table.graph.now at.arcs_are.graph k leg (omega (arith, within, count)) there in
        let group = group_at groups.starts.items groups.touches arc.group in
        subst (λ (kind : TypeId). HasRoomForAll room group ↔ (IsBlocked rows bids node number kind leg → ⊥)) (sym (kind_is bids number bid here))
        (room_free cmp rows bids node number numbered room is group bid.path.kind leg (used bid.path.kind leg) (at.arcs_are.terms.legs_are k leg arc arc_at there).group_is (lists bid.path.kind leg usable));
  }

module _ (net : Net) (bids : List Bid) (node : List Decision) (number : ℕ) (t : Timed) where
  -- without decisions of its own a bid may take each arc for which there is room
  pub free_mark : (k : ℕ) (has_room : Bool) → decisions_for node number ≡ [] → has_room ≡ true → IsLetMark net bids node number t k has_room true
  free_mark k has_room none has = record {
    start_is = λ minute start. ((λ e. (has, All-weaker (λ (d : Decision). d.bid ≡ number → ⊥) (λ (d : Decision). d.bid ≡ number → d.yes ≡ true → minute ≤ d.leg.depart) (λ d no own. absurd (no own)) node none_own)), (λ ok. refl));
    leg_is = λ leg there.
        ((λ e. (has, All-weaker (λ (d : Decision). d.bid ≡ number → ⊥) (λ (d : Decision). d.bid ≡ number → Lets net (kind_at bids number) d leg) (λ d no own. absurd (no own)) node none_own)), (λ ok. refl));
  }
    where
      none_own : All (λ (d : Decision). d.bid ≡ number → ⊥) node
      none_own = (all_for (λ (d : Decision). ⊥) node number).0 (subst (All (λ (d : Decision). d.bid ≡ number → ⊥)) (sym none) (All-nil (λ (d : Decision). d.bid ≡ number → ⊥)))

  -- the arc of a leg, where there is room
  pub leg_let : (k : ℕ) (leg : Leg) (has_room mark : Bool) → leg_of t k ≡ Some leg → has_room ≡ true → (mark ≡ true) ↔ IsLetBy net node number (kind_at bids number) leg → IsLetMark net bids node number t k has_room mark
  leg_let k leg has_room mark at has lets = record {
    start_is = λ minute start. absurd (no_start t k minute leg at start);
    leg_is = λ other there.
        subst (λ (x : Leg). (mark ≡ true) ↔ ((has_room ≡ true) × IsLetBy net node number (kind_at bids number) x)) (same_Some leg other (sym at ∙ there)) ((λ e. (has, lets.0 e)), (λ ok. lets.1 ok.1));
  }

-- whether an arc may be taken, by the room for its group and the bid's own decisions
pub arc_mark : {R : Type 0} (net : Net) (rows : Rows R) (bids : List Bid) (node : List Decision) (number : ℕ) (room : Room) (t : Timed) (groups : Groups) (arcs : List ArcTerm) → RoomTells rows bids node number room t groups arcs
    → (k : ℕ) (arc : ArcTerm) (told : Told) (mark : Bool) → slice_get arcs k ≡ Some arc → told.group ≡ arc.group → IsTold room groups told → IsLetMark net bids node number t k told.has_room mark → IsMark net rows bids node number t k mark
arc_mark net rows bids node number room t groups arcs tells k arc told mark at same is lets = record {
  start_is = λ minute start.
      let by = lets.start_is minute start in
      let has : told.has_room ≡ true = is.1 (subst (HasRoomForAll room) (sym (ap (group_at groups.starts.items groups.touches) same ∙ tells.starts_are k minute arc at start)) (All-nil (HasRoomFor room))) in
      ((λ e. (by.0 e).1), (λ ok. by.1 (has, ok)));
  leg_is = λ leg there.
      let by = lets.leg_is leg there in
      let free = tells.legs_are k leg arc at there in
      let is_here : (told.has_room ≡ true) ↔ HasRoomForAll room (group_at groups.starts.items groups.touches arc.group) =
      subst (λ (g : ℕ). (told.has_room ≡ true) ↔ HasRoomForAll room (group_at groups.starts.items groups.touches g)) same is
      in
      ((λ e. record { let_by = (by.0 e).1; free = free.0 (is_here.0 (by.0 e).0) }), (λ ok. by.1 (is_here.1 (free.1 ok.free), ok.let_by)));
}

-- the first arcs are told anew, and the others are as they were
pub record AreToldUpTo {R : Type 0} (net : Net) (rows : Rows R) (bids : List Bid) (node : List Decision) (number : ℕ) (t : Timed) (n : ℕ) (old new : List ArcTerm) : Type 0 where
  pub count_is : length new ≡ length old
  pub done : (k : ℕ) (before after : ArcTerm) → k < n → slice_get old k ≡ Some before → slice_get new k ≡ Some after → IsToldAnew net rows bids node number t k before after
  pub left : (k : ℕ) → n ≤ k → slice_get new k ≡ slice_get old k

module _ {R : Type 0} (net : Net) (rows : Rows R) (bids : List Bid) (node : List Decision) (number : ℕ) (t : Timed) where
  -- one more arc
  pub told_more : (n : ℕ) (old new : List ArcTerm) (arc after : ArcTerm) → AreToldUpTo net rows bids node number t n old new → slice_get new n ≡ Some arc → IsToldAnew net rows bids node number t n arc after
      → AreToldUpTo net rows bids node number t (n + 1) old (set new n after)
  told_more n old new arc after so_far at is = record {
    count_is = set_length new n after ∙ so_far.count_is;
    done = λ k x y l x_at y_at. elim (cases_eq k n) as (λ _. IsToldAnew net rows bids node number t k x y) [
      | inl e ↦
          let here : slice_get (set new n after) n ≡ Some y = ap (slice_get (set new n after)) (sym e) ∙ y_at in
          let w = slice_get_within new n arc at in
          let same_after : after ≡ y = set_same new n after y w here in
          let same : arc ≡ x = same_Some arc x (sym at ∙ so_far.left n (omega arith) ∙ ap (slice_get old) (sym e) ∙ x_at) in
          subst (λ (j : ℕ). IsToldAnew net rows bids node number t j x y) (sym e)
          (subst (λ (z : ArcTerm). IsToldAnew net rows bids node number t n x z) same_after (subst (λ (z : ArcTerm). IsToldAnew net rows bids node number t n z after) same is))
      | inr apart ↦ so_far.done k x y (omega arith) x_at (sym (set_other new n k after apart) ∙ y_at)
    ];
    left = λ k l. let apart : k ≢ n = omega arith in set_other new n k after apart ∙ so_far.left k (omega arith);
  }

  pub told_all : (n : ℕ) (old new : List ArcTerm) → AreToldUpTo net rows bids node number t n old new → length old ≤ n → AreToldAnew net rows bids node number t old new
  told_all n old new so_far l = record {
    count_is = so_far.count_is;
    each = λ k x y x_at y_at. so_far.done k x y (let w = slice_get_within old k x x_at in omega arith) x_at y_at;
  }

-- tables serve while rows get numbers
pub tables_kept : {R : Type 0} (s : Setting R) (count : ℕ) (numbered after : List R) (groups : Groups) (tables : List BidTable) → Extends numbered after → AreTables s count numbered groups tables → AreTables s count after groups tables
tables_kept s count numbered after groups tables extends are = record {
  count_is = are.count_is;
  each = λ number bid table bid_at table_at. table_kept s numbered after groups extends number bid table (are.each number bid table bid_at table_at);
}

module _ {R : Type 0} (net : Net) (rows : Rows R) (used : TypeId → Leg → List R) (bids : List Bid) (node : List Decision) (numbered : List R) (groups : Groups) where
  abbrev now : Setting R
  now = setting net rows used bids node

  module _ (number : ℕ) (t : Timed) (old new : List ArcTerm) (told : AreToldAnew net rows bids node number t old new) where
    was : (k : ℕ) (arc : ArcTerm) → slice_get new k ≡ Some arc → (x : ArcTerm) × (slice_get old k ≡ Some x)
    was k arc at = some_at old k (let w = slice_get_within new k arc at in let c = told.count_is in omega arith)

    -- arcs that are told anew add and touch what they did
    terms_anew : (bid : Bid) (starts : List ℕ) (touches : List Touch) → AreTerms net rows used bid t numbered starts touches old → AreTerms net rows used bid t numbered starts touches new
    terms_anew bid starts touches are = record {
      starts_are = λ k minute arc at start.
          let b = was k arc at in
          let is = told.each k b.0 arc b.1 at in
          let old_is = are.starts_are k minute b.0 b.1 start in
          record { value_is = is.value_is ∙ old_is.value_is; group_is = ap (group_at starts touches) is.group_is ∙ old_is.group_is };
      legs_are = λ k leg arc at leg_at.
          let b = was k arc at in
          let is = told.each k b.0 arc b.1 at in
          let old_is = are.legs_are k leg b.0 b.1 leg_at in
          record {
            value_is = is.value_is ∙ old_is.value_is;
            group_is = subst (λ (g : ℕ). AreTouches numbered (rows.uses bid.path.kind leg) (group_at starts touches g) (used bid.path.kind leg)) (sym is.group_is) old_is.group_is;
          };
      within = λ k d l.
          let at = slice_get-get_or new k d l in
          let b = was k (get_or new k d) at in
          let is = told.each k b.0 (get_or new k d) b.1 at in
          subst (λ (g : ℕ). g + 1 < length starts) (sym is.group_is) (all_at (λ (a : ArcTerm). a.group + 1 < length starts) old k b.0 are.within b.1);
      values = λ k d l.
          let at = slice_get-get_or new k d l in
          let b = was k (get_or new k d) at in
          let is = told.each k b.0 (get_or new k d) b.1 at in
          subst IsArcValue (sym is.value_is) (all_at (λ (a : ArcTerm). IsArcValue a.value) old k b.0 are.values b.1);
    }

    -- their values are those that they had
    covers_anew : (most : ℤ) → Covers most old → Covers most new
    covers_anew most are = record {
      range = are.range;
      values = λ k d l.
          let at = slice_get-get_or new k d l in
          let b = was k (get_or new k d) at in
          subst (IsBetween (neg_ℤ most) most) (sym (told.each k b.0 (get_or new k d) b.1 at).value_is) (all_at (λ (a : ArcTerm). IsBetween (neg_ℤ most) most a.value) old k b.0 are.values b.1);
    }

    -- and their marks are those of the node
    marks_anew : (bid : Bid) → slice_get bids number ≡ Some bid → AreMarked now number bid.path.kind t new
    marks_anew bid here = record {
      starts_are = λ k minute arc at start. let b = was k arc at in (told.each k b.0 arc b.1 at).mark.start_is minute start;
      legs_are = λ k leg arc at leg_at.
          let b = was k arc at in
          subst (λ (kind : TypeId). (arc.allowed ≡ true) ↔ IsLegOk net rows bids node number kind leg) (kind_is bids number bid here) ((told.each k b.0 arc b.1 at).mark.leg_is leg leg_at);
    }

  -- a table that is told anew is that of the bid at the node
  pub table_anew : (number : ℕ) (bid : Bid) → slice_get bids number ≡ Some bid → (old new : BidTable) → IsTableAnew net rows bids node number old new → IsArcTable net rows used numbered groups bid old → IsBidTable now number numbered groups bid new
  table_anew number bid here old new anew is =
      let starts = groups.starts.items in
      let touches = groups.touches in
      let terms = terms_anew number old.graph.now old.arcs new.arcs anew.arcs bid starts touches is.arcs_are.terms in
      let marks = marks_anew number old.graph.now old.arcs new.arcs anew.arcs bid here in
      record {
        arcs_are = record {
          graph = subst (IsGraphOf net bid.path) (sym anew.graph) is.arcs_are.graph;
          count = anew.arcs.count_is ∙ is.arcs_are.count ∙ ap (λ (t : Timed). length t.dag.arcs) (sym anew.graph);
          groups = is.arcs_are.groups;
          terms = subst (λ (t : Timed). AreTerms net rows used bid t numbered starts touches new.arcs) (sym anew.graph) terms;
          marks = subst (λ (t : Timed). AreMarked now number bid.path.kind t new.arcs) (sym anew.graph) marks;
          forced_is = anew.forced_is;
        };
        covers = subst (λ (most : ℤ). Covers most new.arcs) (sym anew.most) (covers_anew number old.graph.now old.arcs new.arcs anew.arcs old.most is.covers);
      }

-- the first tables are at the node, and the others as they were made
pub record AreTablesUpTo {R : Type 0} (net : Net) (rows : Rows R) (used : TypeId → Leg → List R) (bids : List Bid) (node : List Decision) (numbered : List R) (groups : Groups) (n : ℕ) (tables : List BidTable) : Type 0 where
  pub count_is : length tables ≡ length bids
  pub done : (number : ℕ) (bid : Bid) (table : BidTable) → number < n → slice_get bids number ≡ Some bid → slice_get tables number ≡ Some table → IsBidTable (setting net rows used bids node) number numbered groups bid table
  pub left : (number : ℕ) (bid : Bid) (table : BidTable) → n ≤ number → slice_get bids number ≡ Some bid → slice_get tables number ≡ Some table → IsArcTable net rows used numbered groups bid table

module _ {R : Type 0} (net : Net) (rows : Rows R) (used : TypeId → Leg → List R) (bids : List Bid) (node : List Decision) (numbered : List R) (groups : Groups) where
  pub tables_first : (tables : List BidTable) → HoldArcs net rows used bids (length bids) numbered groups tables → AreTablesUpTo net rows used bids node numbered groups 0 tables
  tables_first tables are = record { count_is = are.count_is; done = λ number bid table l b t. absurd (omega arith); left = λ number bid table l b t. are.each number bid table b t }

  -- one more table
  pub tables_more : (n : ℕ) (tables : List BidTable) (bid : Bid) (old new : BidTable) → AreTablesUpTo net rows used bids node numbered groups n tables → slice_get bids n ≡ Some bid → slice_get tables n ≡ Some old
      → IsTableAnew net rows bids node n old new → AreTablesUpTo net rows used bids node numbered groups (n + 1) (set tables n new)
  tables_more n tables bid old new so_far at old_at anew = record {
    count_is = set_length tables n new ∙ so_far.count_is;
    done = λ number b x l b_at x_at. elim (cases_eq number n) as (λ _. IsBidTable (setting net rows used bids node) number numbered groups b x) [
      | inl e ↦
          let here : slice_get (set tables n new) n ≡ Some x = ap (slice_get (set tables n new)) (sym e) ∙ x_at in
          let bid_here : slice_get bids n ≡ Some b = ap (slice_get bids) (sym e) ∙ b_at in
          let w = slice_get_within tables n old old_at in
          let same : new ≡ x = set_same tables n new x w here in
          let is = table_anew net rows used bids node numbered groups n b bid_here old new anew (so_far.left n b old (omega arith) bid_here old_at) in
          subst (λ (j : ℕ). IsBidTable (setting net rows used bids node) j numbered groups b x) (sym e) (subst (λ (z : BidTable). IsBidTable (setting net rows used bids node) n numbered groups b z) same is)
      | inr apart ↦ so_far.done number b x (omega arith) b_at (sym (set_other tables n number new apart) ∙ x_at)
    ];
    left = λ number b x l b_at x_at.
        let apart : number ≢ n = omega arith in
        so_far.left number b x (omega arith) b_at (sym (set_other tables n number new apart) ∙ x_at);
  }

  -- one more table, which is at the node
  pub tables_skip : (n : ℕ) (tables : List BidTable) → AreTablesUpTo net rows used bids node numbered groups n tables
      → ((bid : Bid) (table : BidTable) → slice_get bids n ≡ Some bid → slice_get tables n ≡ Some table → IsBidTable (setting net rows used bids node) n numbered groups bid table) → AreTablesUpTo net rows used bids node numbered groups (n + 1) tables
  tables_skip n tables so_far here = record {
    count_is = so_far.count_is;
    done = λ number b x l b_at x_at. elim (cases_eq number n) as (λ _. IsBidTable (setting net rows used bids node) number numbered groups b x) [
      | inl e ↦ subst (λ (j : ℕ). IsBidTable (setting net rows used bids node) j numbered groups b x) (sym e) (here b x (ap (slice_get bids) (sym e) ∙ b_at) (ap (slice_get tables) (sym e) ∙ x_at))
      | inr apart ↦ so_far.done number b x (omega arith) b_at x_at
    ];
    left = λ number b x l b_at x_at. so_far.left number b x (omega arith) b_at x_at;
  }

  pub tables_all : (n : ℕ) (tables : List BidTable) → AreTablesUpTo net rows used bids node numbered groups n tables → length bids ≤ n → AreTables (setting net rows used bids node) (length bids) numbered groups tables
  tables_all n tables so_far l = record {
    count_is = so_far.count_is;
    each = λ number bid table b t. so_far.done number bid table (let w = slice_get_within bids number bid b in omega arith) b t;
  }

-- ---- what has changed
pub neither : (a b : Bool) → (a || b) ≡ false → (a ≡ false) × (b ≡ false)
neither true b e = cc
neither false b e = (refl, e)

pub get_or_by : (xs ys : List ArcTerm) (k : ℕ) (d : ArcTerm) → slice_get xs k ≡ slice_get ys k → get_or xs k d ≡ get_or ys k d
get_or_by xs ys k d e = sym (unwrap_or-slice_get xs k d) ∙ ap (λ (o : Option ArcTerm). unwrap_or o d) e ∙ unwrap_or-slice_get ys k d

-- an arc that changed so far did not change back, or this one changed
pub changed_at : (old arcs new : List ArcTerm) (k : ℕ) (after : ArcTerm) → k < length arcs → get_or arcs k no_arc ≡ get_or old k no_arc → new ≡ set arcs k after
    → {changed here : Bool} → (changed ≡ true → (j : ℕ) × (j < k) × (get_or arcs j no_arc ≡ get_or old j no_arc → ⊥)) → (here ≡ true → get_or new k no_arc ≡ get_or arcs k no_arc → ⊥)
    → (changed ≡ true) ⊎ (here ≡ true) → (j : ℕ) × (j < k + 1) × (get_or new j no_arc ≡ get_or old j no_arc → ⊥)
changed_at old arcs new k after within same put so_far now (inl e) =
    let some = so_far e in
    let apart : some.0 ≢ k = (λ is. let l = some.1 in absurd (omega arith)) in
    (some.0, (let l = some.1 in omega arith), λ is. some.2 (sym (get_or-set_other arcs k some.0 after no_arc apart) ∙ sym (ap (λ (xs : List ArcTerm). get_or xs some.0 no_arc) put) ∙ is))
changed_at old arcs new k after within same put so_far now (inr e) = (k, omega arith, λ is. now e (is ∙ sym same))

-- what has changed of the first tables is known, and the others are as they were
pub record AreBroughtUpTo (n : ℕ) (told changed : List Bool) (old new : List BidTable) : Type 0 where
  pub count_is : length new ≡ length old
  pub changed_count : length changed ≡ length told
  pub done : (number : ℕ) (c : Bool) (before after : BidTable) → number < n → slice_get changed number ≡ Some c → slice_get old number ≡ Some before → slice_get new number ≡ Some after → IsBrought c before after
  pub left : (number : ℕ) → n ≤ number → slice_get new number ≡ slice_get old number
  pub told_left : (number : ℕ) → n ≤ number → slice_get changed number ≡ slice_get told number

pub brought_none : (told : List Bool) (tables : List BidTable) → AreBroughtUpTo 0 told told tables tables
brought_none told tables = record { count_is = refl; changed_count = refl; done = λ number c before after l x b a. absurd (omega arith); left = λ number l. refl; told_left = λ number l. refl }

-- a table that stays
pub brought_skip : (n : ℕ) (told changed : List Bool) (old new : List BidTable) → slice_get changed n ≡ Some false → AreBroughtUpTo n told changed old new → AreBroughtUpTo (n + 1) told changed old new
brought_skip n told changed old new untold so_far = record {
  count_is = so_far.count_is;
  changed_count = so_far.changed_count;
  done = λ number x y z l x_at y_at z_at. elim (cases_eq number n) as (λ _. IsBrought x y z) [
    | inl e ↦
        let same : y ≡ z = same_Some y z (sym y_at ∙ sym (so_far.left number (omega arith)) ∙ z_at) in
        let unchanged : x ≡ false = same_Some x false (sym x_at ∙ ap (slice_get changed) e ∙ untold) in
        subst (λ (u : BidTable). IsBrought x y u) same (record { graph = refl; groups = refl; arcs = λ w. refl; forced = λ w. refl; other = λ yes w v. cc (unchanged, yes) })
    | inr apart ↦ so_far.done number x y z (omega arith) x_at y_at z_at
  ];
  left = λ number l. so_far.left number (omega arith);
  told_left = λ number l. so_far.told_left number (omega arith);
}

-- one more table
pub brought_more : (n : ℕ) (told changed : List Bool) (old new : List BidTable) (c : Bool) (table after : BidTable) → AreBroughtUpTo n told changed old new → slice_get new n ≡ Some table → n < length changed → IsBrought c table after
    → AreBroughtUpTo (n + 1) told (set changed n c) old (set new n after)
brought_more n told changed old new c table after so_far at within is = record {
  count_is = set_length new n after ∙ so_far.count_is;
  changed_count = set_length changed n c ∙ so_far.changed_count;
  done = λ number x y z l x_at y_at z_at. elim (cases_eq number n) as (λ _. IsBrought x y z) [
    | inl e ↦
        let x_here : slice_get (set changed n c) n ≡ Some x = ap (slice_get (set changed n c)) (sym e) ∙ x_at in
        let z_here : slice_get (set new n after) n ≡ Some z = ap (slice_get (set new n after)) (sym e) ∙ z_at in
        let w = slice_get_within new n table at in
        let same_mark : c ≡ x = set_same changed n c x within x_here in
        let same_after : after ≡ z = set_same new n after z w z_here in
        let same : table ≡ y = same_Some table y (sym at ∙ so_far.left n (omega arith) ∙ ap (slice_get old) (sym e) ∙ y_at) in
        subst (λ (b : Bool). IsBrought b y z) same_mark (subst (λ (u : BidTable). IsBrought c y u) same_after (subst (λ (u : BidTable). IsBrought c u after) same is))
    | inr apart ↦ so_far.done number x y z (omega arith) (sym (set_other changed n number c apart) ∙ x_at) y_at (sym (set_other new n number after apart) ∙ z_at)
  ];
  left = λ number l. let apart : number ≢ n = omega arith in set_other new n number after apart ∙ so_far.left number (omega arith);
  told_left = λ number l. let apart : number ≢ n = omega arith in set_other changed n number c apart ∙ so_far.told_left number (omega arith);
}

pub brought_all : (n : ℕ) (told changed : List Bool) (old new : List BidTable) → AreBroughtUpTo n told changed old new → length old ≤ n → length told ≡ length old → AreBrought changed old new
brought_all n told changed old new so_far past count = record {
  count_is = so_far.count_is;
  changed_count = so_far.changed_count ∙ count;
  each = λ number c before after x b a. so_far.done number c before after (let w = slice_get_within old number before b in omega arith) x b a;
}
