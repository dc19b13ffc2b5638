-- The paths of arcs that may be taken are the placeable walks, and the first best path is the first worthiest walk.
use Rattle.std.proofs.Common.{◌≡◌, ℕ, ◌<◌, true, List, [], ◌∷◌, map, length, Option, None, Some, refl, sym, ap, ◌∙◌, subst, arith}
use Rattle.std.specs.Prelude.{All, ℤ, pos, ◌*ℤ◌, ◌≤ℤ◌, ◌<ℤ◌}
use Rattle.std.specs.Ordering.{is_gt}
use Rattle.std.proofs.lemmas.Int.{ints}
use Rattle.std.proofs.lemmas.List.Elements.{All-nil, All-cons, All-head, All-tail, All-weaker}
use Rattle.optra_network.specs.Net.{Net, IsProper}
use Rattle.optra_bid.specs.declared.bids.Bid.{Bid}
use Rattle.optra_walk.specs.declared.Leg.{Leg}
use Rattle.optra_walk.specs.Families.{Rows, Entry, IsUsable, HasRoom}
use Rattle.optra_walk.specs.Orders.{walk_cmp}
use Rattle.optra_walk.specs.Values.{value_of, first_departure}
use Rattle.optra_walk.proofs.UsableLemmas.{walk_usable}
use Rattle.optra_dag.specs.Paths.{IsPath, IsFirstBest, weight_of}
use Rattle.optra_graph.specs.Timed.{Timed, IsGraphOf, IsRoute, IsLegArc, leg_at, walk_of}
use Rattle.optra_node.specs.declared.Decision.{Decision}
use Rattle.optra_node.specs.Duals.{sum_of}
use Rattle.optra_node.specs.Laws.{TestsTellAllowed}
use Rattle.optra_node.specs.Spans.{IsLegOk}
use Rattle.optra_node.proofs.SumLemmas.{sum_of-cons}
use Rattle.optra_walk.specs.Shares.{leg_value}
use Rattle.optra_prices.specs.Repairs.{IsPlaceable, IsFirstWorthiest}
use Rattle.optra_prices.proofs.ArcLemmas.{leads_on, leads_back, leads_within, leg_there}
use Rattle.optra_prices.proofs.ValueLemmas.{walk_sum}
use Rattle.optra_prices.specs.declared.parts.ArcPart.{ArcPart}
use Rattle.optra_prices.specs.Parts.{AreParts}
use Rattle.optra_repair.specs.Parts.{allows_at, weight_at, IsWorthWalk}
use Rattle.optra_repair.specs.Placings.{AreTotals, AreWithin, IsWorthiest}
use Rattle.optra_repair.proofs.RoomLemmas.{room_fits}
use Rattle.optra_repair.proofs.WorthLemmas.{path_route}

module _ {R : Type 0} (net : Net) (proper : IsProper net) (rows : Rows R) (bids : List Bid) (law : TestsTellAllowed net rows bids) (node : List Decision) (number : ℕ) (bid : Bid) (t : Timed) (is_graph : IsGraphOf net bid.path t)
    (total : R → ℕ) (parts : List ArcPart) (are : AreParts net rows bids node total number bid t (length t.dag.arcs) parts) where
  legs_weight : (arcs : List ℕ) → All (IsLegArc t) arcs → All (λ k. k < length t.dag.arcs) arcs → weight_of (weight_at parts) arcs ≡ sum_of (leg_value net bid) (map (leg_at t) arcs)
  legs_weight [] legs within = refl
  legs_weight (k ∷ arcs) legs within =
      let i = legs_weight arcs (All-tail (IsLegArc t) k arcs legs) (All-tail (λ k. k < length t.dag.arcs) k arcs within) in
      let c = sum_of-cons (leg_value net bid) (leg_at t k) (map (leg_at t) arcs) in
      let here = leg_there t k (All-head (IsLegArc t) k arcs legs).0 in
      let w = (are.each k (All-head (λ k. k < length t.dag.arcs) k arcs within)).leg_is (leg_at t k) here in
      omega (arith, ints)

  -- a route weighs what its walk is worth
  route_weight : (arcs : List ℕ) → IsRoute t arcs → weight_of (weight_at parts) arcs ≡ pos 1000 *ℤ value_of net bid.path bid.money (walk_of t arcs)
  route_weight [] route = absurd (route.some refl)
  route_weight (k ∷ arcs) route =
      let begins = is_graph.begins (k ∷ arcs) route in
      let walk = is_graph.sound (k ∷ arcs) route in
      let within = leads_within t.dag 0 (k ∷ arcs) route.leads in
      let start = (are.each k (All-head (λ k. k < length t.dag.arcs) k arcs within)).start_is (first_departure (walk_of t (k ∷ arcs))) begins.0.0 in
      let legs = legs_weight arcs begins.1 (All-tail (λ k. k < length t.dag.arcs) k arcs within) in
      let sum = walk_sum net bid proper (walk_of t (k ∷ arcs)) walk in
      omega (arith, ints)

  -- a leg passes both tests
  abbrev Passes : Leg → Type 0
  Passes leg = IsLegOk net rows bids node number bid.path.kind leg × HasRoom rows total bid.path.kind leg

  legs_pass : (arcs : List ℕ) → All (IsLegArc t) arcs → All (λ k. (k < length t.dag.arcs) × (allows_at parts k ≡ true)) arcs → All Passes (map (leg_at t) arcs)
  legs_pass [] legs all = All-nil Passes
  legs_pass (k ∷ arcs) legs all =
      let here = leg_there t k (All-head (IsLegArc t) k arcs legs).0 in
      let both = All-head (λ k. (k < length t.dag.arcs) × (allows_at parts k ≡ true)) k arcs all in
      All-cons Passes (leg_at t k) (map (leg_at t) arcs) (((are.each k both.0).leg_allowed (leg_at t k) here).0 both.1)
      (legs_pass arcs (All-tail (IsLegArc t) k arcs legs) (All-tail (λ k. (k < length t.dag.arcs) × (allows_at parts k ≡ true)) k arcs all))

  legs_allowed : (arcs : List ℕ) → All (IsLegArc t) arcs → All (λ k. k < length t.dag.arcs) arcs → All Passes (map (leg_at t) arcs) → All (λ k. allows_at parts k ≡ true) arcs
  legs_allowed [] legs within pass = All-nil (λ k. allows_at parts k ≡ true)
  legs_allowed (k ∷ arcs) legs within pass =
      let here = leg_there t k (All-head (IsLegArc t) k arcs legs).0 in
      let is = All-head Passes (leg_at t k) (map (leg_at t) arcs) pass in
      All-cons (λ k. allows_at parts k ≡ true) k arcs (((are.each k (All-head (λ k. k < length t.dag.arcs) k arcs within)).leg_allowed (leg_at t k) here).1 is)
      (legs_allowed arcs (All-tail (IsLegArc t) k arcs legs) (All-tail (λ k. k < length t.dag.arcs) k arcs within) (All-tail Passes (leg_at t k) (map (leg_at t) arcs) pass))

  module _ (are_rows : (leg : Leg) → IsUsable net bid.path.kind leg → (row : R) → 0 < rows.uses bid.path.kind leg row → rows.is_row row ≡ true) (within : AreWithin rows total)
      (placed : List Entry) (totals : AreTotals rows total placed) where
    -- the walk of a path is placeable
    pub path_placeable : (arcs : List ℕ) → IsPath t.dag (allows_at parts) arcs → IsPlaceable net rows bids node placed number bid (walk_of t arcs)
    path_placeable [] path = absurd (path.some refl)
    path_placeable (k ∷ arcs) path =
        let route = path_route t parts (k ∷ arcs) path in
        let begins = is_graph.begins (k ∷ arcs) route in
        let walk = is_graph.sound (k ∷ arcs) route in
        let all = (leads_on t.dag (allows_at parts) 0 (k ∷ arcs) path.leads).1 in
        let first = All-head (λ k. (k < length t.dag.arcs) × (allows_at parts k ≡ true)) k arcs all in
        let start = ((are.each k first.0).start_allowed (first_departure (walk_of t (k ∷ arcs))) begins.0.0).0 first.1 in
        let legs = legs_pass arcs begins.1 (All-tail (λ k. (k < length t.dag.arcs) × (allows_at parts k ≡ true)) k arcs all) in
        let usable = walk_usable net proper bid (walk_of t (k ∷ arcs)) walk in
        record {
          allowed = (law node number bid (walk_of t (k ∷ arcs)) walk).1 (start, All-weaker Passes (IsLegOk net rows bids node number bid.path.kind) (λ leg h. h.0) (map (leg_at t) arcs) legs);
          each_fits = λ j d l. (room_fits rows placed total totals bid.path.kind _ within (are_rows _ (usable j d l))).0 (legs j d l).1;
        }

    -- a route whose walk is placeable is a path
    route_path : (arcs : List ℕ) → IsRoute t arcs → IsPlaceable net rows bids node placed number bid (walk_of t arcs) → IsPath t.dag (allows_at parts) arcs
    route_path [] route placeable = absurd (route.some refl)
    route_path (k ∷ arcs) route placeable =
        let begins = is_graph.begins (k ∷ arcs) route in
        let walk = placeable.allowed.walk in
        let tests = (law node number bid (walk_of t (k ∷ arcs)) walk).0 placeable.allowed in
        let inside = leads_within t.dag 0 (k ∷ arcs) route.leads in
        let usable = walk_usable net proper bid (walk_of t (k ∷ arcs)) walk in
        let start = ((are.each k (All-head (λ k. k < length t.dag.arcs) k arcs inside)).start_allowed (first_departure (walk_of t (k ∷ arcs))) begins.0.0).1 tests.0 in
        let pass : All Passes (map (leg_at t) arcs) = λ j d l. (tests.1 j d l, (room_fits rows placed total totals bid.path.kind _ within (are_rows _ (usable j d l))).1 (placeable.each_fits j d l)) in
        let legs = legs_allowed arcs begins.1 (All-tail (λ k. k < length t.dag.arcs) k arcs inside) pass in
        record { some = route.some; leads = leads_back t.dag (allows_at parts) 0 (k ∷ arcs) route.leads (All-cons (λ k. allows_at parts k ≡ true) k arcs start legs) }

    -- a placeable walk is that of a path
    placeable_path : (legs : List Leg) → IsPlaceable net rows bids node placed number bid legs → (arcs : List ℕ) × IsPath t.dag (allows_at parts) arcs × IsRoute t arcs × (walk_of t arcs ≡ legs)
    placeable_path legs placeable =
        let w = is_graph.whole legs placeable.allowed.walk in
        let path = route_path w.0 w.1 (subst (IsPlaceable net rows bids node placed number bid) (sym w.2) placeable) in
        (w.0, path, w.1, w.2)

    thousandfold : (a b : ℤ) → (pos 1000 *ℤ a) ≤ℤ (pos 1000 *ℤ b) → a ≤ℤ b
    thousandfold a b l = omega (arith, ints)

    -- the first best path is the first worthiest walk
    best_worthiest : (arcs : List ℕ) (sum : ℤ) → IsFirstBest t.dag (allows_at parts) (weight_at parts) sum arcs
        → IsFirstWorthiest net rows bids node placed number bid (walk_of t arcs) × (sum ≡ pos 1000 *ℤ value_of net bid.path bid.money (walk_of t arcs))
    best_worthiest arcs sum best =
        let route = path_route t parts arcs best.path in
        let worth : sum ≡ pos 1000 *ℤ value_of net bid.path bid.money (walk_of t arcs) = sym best.sum ∙ route_weight arcs route in (
          record {
            placeable = path_placeable arcs best.path;
            greatest = λ other placeable.
                let p = placeable_path other placeable in
                let most = best.greatest p.0 p.1 in
                let same = route_weight p.0 p.2 ∙ ap (λ (legs : List Leg). pos 1000 *ℤ value_of net bid.path bid.money legs) p.3 in
                omega (arith, ints);
            first = λ other placeable tie.
                let p = placeable_path other placeable in
                let same = route_weight p.0 p.2 ∙ ap (λ (legs : List Leg). pos 1000 *ℤ value_of net bid.path bid.money legs) p.3 in
                let first = best.first p.0 p.1 (same ∙ ap (λ (z : ℤ). pos 1000 *ℤ z) tie ∙ sym worth) in
                let order = is_graph.order arcs p.0 route p.2 ∙ ap (walk_cmp (walk_of t arcs)) p.3 in
                sym (ap is_gt order) ∙ first;
          },
          worth,
        )

    -- where no path is worth anything, no placeable walk is
    pub none_worthiest : IsWorthWalk t parts None → IsWorthiest net rows bids node placed number bid None
    none_worthiest most legs placeable =
        let p = placeable_path legs placeable in
        let m = most p.0 p.1 in
        let same = route_weight p.0 p.2 ∙ ap (λ (legs : List Leg). pos 1000 *ℤ value_of net bid.path bid.money legs) p.3 in
        omega (arith, ints)

    -- else its walk is the first worthiest
    pub some_worthiest : (legs : List Leg) → IsWorthWalk t parts (Some legs) → IsWorthiest net rows bids node placed number bid (Some legs)
    some_worthiest legs (path, sum, best, above, e) =
        let b = best_worthiest path sum best in
        let earns : pos 0 <ℤ value_of net bid.path bid.money (walk_of t path) = let w = b.1 in omega (arith, ints) in
        subst (λ (l : List Leg). IsWorthiest net rows bids node placed number bid (Some l)) (sym e) (b.0, earns)

    -- so what the search leaves is the worthiest
    pub worth_worthiest : (walk : Option (List Leg)) → IsWorthWalk t parts walk → IsWorthiest net rows bids node placed number bid walk
    worth_worthiest None is = none_worthiest is
    worth_worthiest (Some legs) is = some_worthiest legs is
