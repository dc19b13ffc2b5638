-- Room after a path was put into it, and what it tells of the path's walk.
use Rattle.std.proofs.Common.{◌≡◌, ℕ, ◌+◌, ◌≤◌, ◌<◌, true, List, [], ◌∷◌, length, map, get_or, Option, Some, None, slice_get, refl, sym, ◌∙◌, subst, arith, inl, inr}
use Rattle.std.specs.Prelude.{◌↔◌, All}
use Rattle.std.specs.Cmp.{IsTotalOrder}
use Rattle.std.specs.declared.cmp.Ordering.{Ordering}
use Rattle.std.proofs.lemmas.Bool.{cases_lt}
use Rattle.std.proofs.lemmas.List.Elements.{All-nil, All-cons, All-head, All-tail}
use Rattle.std.proofs.lemmas.Option.{none-some, get_or_from_slice_get}
use Rattle.optra_network.specs.Net.{IsProper}
use Rattle.optra_network.specs.declared.TypeId.{TypeId}
use Rattle.optra_bid.specs.declared.bids.Bid.{Bid}
use Rattle.optra_walk.specs.declared.Leg.{Leg}
use Rattle.optra_walk.specs.Families.{IsUsable, ListsRows, TellsApart, load_of}
use Rattle.optra_graph.specs.Timed.{IsRoute, IsLegArc, leg_at, walk_of}
use Rattle.optra_prices.specs.Arcs.{path_reply}
use Rattle.optra_prices.specs.Holdings.{entries_one}
use Rattle.optra_prices.specs.Parts.{HasRoom, legs_load, HaveRoomFor, KeepsWithin}
use Rattle.optra_prices.specs.Rooms.{IsRoom, IsNumberWithin, HasRoomForAll}
use Rattle.optra_prices.specs.Tables.{IsNumbering, IsTouch, no_arc, number_in}
use Rattle.optra_prices.specs.Terms.{Setting, AreBidArcs}
use Rattle.optra_prices.specs.Uses.{touch_uses, arc_touches, path_uses, AddsUses, TakesUses}
use Rattle.optra_prices.specs.declared.numbering.BidTable.{BidTable}
use Rattle.optra_prices.specs.declared.numbering.Groups.{Groups}
use Rattle.optra_prices.specs.declared.touch.Touch.{Touch}
use Rattle.optra_prices.specs.declared.rooms.Room.{Room}
use Rattle.optra_prices.proofs.FillLemmas.{some_part, touch_within}
use Rattle.optra_prices.proofs.ArcLemmas.{leg_there, leads_within}
use Rattle.optra_prices.proofs.ListLemmas.{all_at}
use Rattle.optra_prices.proofs.LoadingLemmas.{numbered_load, unnumbered_load, arc_there, leg_touches, usable}
use Rattle.optra_prices.proofs.RoomLemmas.{zip_all, room_tells, room_adds, room_takes}
use Rattle.optra_prices.proofs.PartLemmas.{room_for_none}

path_within_at : (Q : ℕ → Type 0) (groups : Groups) (table : BidTable) (path : List ℕ) (n : ℕ) → All (λ k. All (λ touch. Q touch.row) (arc_touches groups table k)) path → 0 < path_uses groups table path n → Q n
path_within_at Q groups table path n all some =
    some_part (λ k. touch_uses (arc_touches groups table k) n) (Q n) path (λ i d l used. touch_within Q (arc_touches groups table (get_or path i d)) n (all i d l) used) some

-- the arcs of a path of the table's graph are arcs of the table
pub route_within : (table : BidTable) → length table.arcs ≡ length table.graph.now.dag.arcs → (path : List ℕ) → ((path ≡ [] → ⊥) → IsRoute table.graph.now path) → All (λ k. k < length table.arcs) path
route_within table count [] route = All-nil (λ k. k < length table.arcs)
route_within table count (k ∷ arcs) route = subst (λ (n : ℕ). All (λ j. j < n) (k ∷ arcs)) (sym count) (leads_within table.graph.now.dag 0 (k ∷ arcs) (route (λ e. cc)).leads)

module _ {R : Type 0} (cmp : R → R → Ordering) (order : IsTotalOrder cmp) (apart : TellsApart cmp) (s : Setting R) (proper : IsProper s.net)
    (lists : (kind : TypeId) (leg : Leg) → IsUsable s.net kind leg → ListsRows cmp s.rows.is_row (s.rows.uses kind leg) (s.used kind leg)) (numbers : List (R × ℕ)) (numbered : List R) (numbering : IsNumbering cmp numbers numbered)
    (groups : Groups) (number : ℕ) (bid : Bid) (table : BidTable) (are : AreBidArcs s number bid table.graph.now numbered table.arcs groups.starts.items groups.touches table.forced)
    (path : List ℕ) (within : All (λ k. k < length table.arcs) path) (route : (path ≡ [] → ⊥) → IsRoute table.graph.now path) (total : R → ℕ) where
  once : (i j : ℕ) (row : R) → slice_get numbered i ≡ Some row → slice_get numbered j ≡ Some row → i ≡ j
  once i j row a b = same (sym (numbering.known i row a) ∙ numbering.known j row b)
    where
      same : {x y : ℕ} → Some x ≡ Some y → x ≡ y
      same e = cc

  abbrev spent : R → ℕ
  spent row = legs_load s.rows bid.path.kind (walk_of table.graph.now path) row

  spent_is : (row : R) → load_of s.rows row (entries_one bid (path_reply table.graph.now path)) ≡ spent row
  spent_is row = by path
    where
      by : (arcs : List ℕ) → load_of s.rows row (entries_one bid (path_reply table.graph.now arcs)) ≡ legs_load s.rows bid.path.kind (walk_of table.graph.now arcs) row
      by [] = refl
      by (k ∷ arcs) = refl

  uses_at : (n : ℕ) (row : R) → slice_get numbered n ≡ Some row → path_uses groups table path n ≡ spent row
  uses_at n row at = numbered_load cmp order apart s proper lists numbered groups number bid table are path within route once n row at ∙ spent_is row

  -- the path was added
  pub adds_path : (old new : Room) → IsRoom s.rows numbered total old → AddsUses (path_uses groups table path) old.loads.uses new.loads.uses → new.loads.capacities ≡ old.loads.capacities → IsRoom s.rows numbered (λ row. total row + spent row) new
  adds_path old new = room_adds s.rows numbered (path_uses groups table path) total spent uses_at old new

  -- and taken away again
  pub takes_path : (old new : Room) → IsRoom s.rows numbered (λ row. total row + spent row) old → TakesUses (path_uses groups table path) old.loads.uses new.loads.uses → new.loads.capacities ≡ old.loads.capacities → IsRoom s.rows numbered total new
  takes_path old new = room_takes s.rows numbered (path_uses groups table path) total spent uses_at old new

  module _ (new : Room) (is : IsRoom s.rows numbered (λ row. total row + spent row) new) where
    -- with the path in it, no more is used of a numbered row than there is exactly where its legs have room together
    number_fits : (n : ℕ) (row : R) → slice_get numbered n ≡ Some row → IsNumberWithin new n ↔ (total row + spent row ≤ s.rows.capacity row)
    number_fits n row at =
        let u : get_or new.loads.uses n 0 ≡ total row + spent row = get_or_from_slice_get new.loads.uses n (total row + spent row) 0 (is.uses_are n row at) in
        let c : get_or new.loads.capacities n 0 ≡ s.rows.capacity row = get_or_from_slice_get new.loads.capacities n (s.rows.capacity row) 0 (is.capacities_are n row at) in
        ((λ w. omega (arith, w, u, c)), (λ f. omega (arith, f, u, c)))

    pub path_fits : KeepsWithin s.rows total → All (λ k. All (λ touch. IsNumberWithin new touch.row) (arc_touches groups table k)) path → HaveRoomFor s.rows total bid.path.kind (walk_of table.graph.now path)
    path_fits below all row is_row = by (number_in cmp numbers row) refl
      where
        by : (o : Option ℕ) → number_in cmp numbers row ≡ o → total row + spent row ≤ s.rows.capacity row
        by None e =
            let z = unnumbered_load cmp order apart s proper lists numbered groups number bid table are path within route row (λ n at. none-some n (sym e ∙ numbering.known n row at)) in
            let u = spent_is row in
            let b = below row is_row in
            omega (arith, z, u, b)
        by (Some n) e =
            let at = numbering.found row n e in
            elim (cases_lt 0 (path_uses groups table path n)) as (λ _. total row + spent row ≤ s.rows.capacity row) [
              | inl some ↦ (number_fits n row at).0 (path_within_at (IsNumberWithin new) groups table path n all some)
              | inr none ↦ let u = uses_at n row at in let b = below row is_row in omega (arith, u, b, none)
            ]

    -- and each touched row is then one of which no more is used than there is
    pub path_told : All (λ row. s.rows.is_row row ≡ true) numbered → HaveRoomFor s.rows total bid.path.kind (walk_of table.graph.now path) → All (λ k. All (λ touch. IsNumberWithin new touch.row) (arc_touches groups table k)) path
    path_told are_rows have = by path within route
      where
        W : Touch → Type 0
        W touch = IsNumberWithin new touch.row

        leg_told : (k : ℕ) → k < length table.arcs → IsLegArc table.graph.now k → All W (arc_touches groups table k)
        leg_told k l is =
            let leg = leg_at table.graph.now k in
            let touches = leg_touches cmp order apart s proper lists numbered groups number bid table are path within route k leg l (leg_there table.graph.now k is.0) in
            zip_all (IsTouch numbered (s.rows.uses bid.path.kind leg)) W (arc_touches groups table k) (s.used bid.path.kind leg) touches
            (λ touch row has touched. (number_fits touch.row row touched.number).1 (have row (all_at (λ row. s.rows.is_row row ≡ true) numbered touch.row row are_rows touched.number)))

        by : (arcs : List ℕ) → All (λ k. k < length table.arcs) arcs → ((arcs ≡ [] → ⊥) → IsRoute table.graph.now arcs) → All (λ k. All W (arc_touches groups table k)) arcs
        by [] inside is = All-nil (λ k. All W (arc_touches groups table k))
        by (k ∷ arcs) inside is =
            let begins = are.graph.begins (k ∷ arcs) (is (λ e. cc)) in
            let l = All-head (λ (j : ℕ). j < length table.arcs) k arcs inside in
            let none = (are.terms.starts_are k _ (get_or table.arcs k no_arc) (arc_there cmp order apart s proper lists numbered groups number bid table are path within route k l) begins.0.0).group_is in
            All-cons (λ k. All W (arc_touches groups table k)) k arcs (subst (All W) (sym none) (All-nil W))
            (λ i d m. leg_told (get_or arcs i d) ((All-tail (λ (j : ℕ). j < length table.arcs) k arcs inside) i d m) (begins.1 i d m))

  module _ (room : Room) (is : IsRoom s.rows numbered total room) where
    leg_tells : (k : ℕ) → k < length table.arcs → IsLegArc table.graph.now k → HasRoomForAll room (arc_touches groups table k) ↔ HasRoom s.rows total bid.path.kind (leg_at table.graph.now k)
    leg_tells k l leg_arc =
        let leg = leg_at table.graph.now k in
        let there = leg_there table.graph.now k leg_arc.0 in
        let touches = leg_touches cmp order apart s proper lists numbered groups number bid table are path within route k leg l there in
        let law = lists bid.path.kind leg (usable cmp order apart s proper lists numbered groups number bid table are path within route k leg l there) in
        room_tells cmp s.rows numbered total room is (arc_touches groups table k) bid.path.kind leg (s.used bid.path.kind leg) touches law

    arcs_tell : (arcs : List ℕ) → All (λ k. k < length table.arcs) arcs → All (IsLegArc table.graph.now) arcs
        → All (λ k. HasRoomForAll room (arc_touches groups table k)) arcs ↔ All (HasRoom s.rows total bid.path.kind) (map (leg_at table.graph.now) arcs)
    arcs_tell [] inside legs = ((λ all. All-nil (HasRoom s.rows total bid.path.kind)), (λ all. All-nil (λ k. HasRoomForAll room (arc_touches groups table k))))
    arcs_tell (k ∷ arcs) inside legs =
        let here = leg_tells k (All-head (λ (j : ℕ). j < length table.arcs) k arcs inside) (All-head (IsLegArc table.graph.now) k arcs legs) in
        let rest = arcs_tell arcs (All-tail (λ (j : ℕ). j < length table.arcs) k arcs inside) (All-tail (IsLegArc table.graph.now) k arcs legs) in
        let by_arc = λ (j : ℕ). HasRoomForAll room (arc_touches groups table j) in
        let by_leg = HasRoom s.rows total bid.path.kind in (
          (λ all. All-cons by_leg (leg_at table.graph.now k) (map (leg_at table.graph.now) arcs) (here.0 (All-head by_arc k arcs all)) (rest.0 (All-tail by_arc k arcs all))),
          (λ all. All-cons by_arc k arcs (here.1 (All-head by_leg (leg_at table.graph.now k) (map (leg_at table.graph.now) arcs) all)) (rest.1 (All-tail by_leg (leg_at table.graph.now k) (map (leg_at table.graph.now) arcs) all))),
        )

    -- there is room for each arc of a path exactly where there is for each leg of its walk
    pub each_tells : All (λ k. HasRoomForAll room (arc_touches groups table k)) path ↔ All (HasRoom s.rows total bid.path.kind) (walk_of table.graph.now path)
    each_tells = by path within route
      where
        by : (arcs : List ℕ) → All (λ k. k < length table.arcs) arcs → ((arcs ≡ [] → ⊥) → IsRoute table.graph.now arcs)
            → All (λ k. HasRoomForAll room (arc_touches groups table k)) arcs ↔ All (HasRoom s.rows total bid.path.kind) (walk_of table.graph.now arcs)
        by [] inside some = ((λ all. All-nil (HasRoom s.rows total bid.path.kind)), (λ all. All-nil (λ k. HasRoomForAll room (arc_touches groups table k))))
        by (k ∷ arcs) inside some =
            let begins = are.graph.begins (k ∷ arcs) (some (λ e. cc)) in
            let l = All-head (λ (j : ℕ). j < length table.arcs) k arcs inside in
            let none = (are.terms.starts_are k _ (get_or table.arcs k no_arc) (arc_there cmp order apart s proper lists numbered groups number bid table are path within route k l) begins.0.0).group_is in
            let rest = arcs_tell arcs (All-tail (λ (j : ℕ). j < length table.arcs) k arcs inside) begins.1 in
            let by_arc = λ (j : ℕ). HasRoomForAll room (arc_touches groups table j) in
            ((λ all. rest.0 (All-tail by_arc k arcs all)), (λ all. All-cons by_arc k arcs (room_for_none room (arc_touches groups table k) none) (rest.1 all)))
