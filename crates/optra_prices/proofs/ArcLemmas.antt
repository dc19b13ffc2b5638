-- The allowed paths of a bid's graph are its allowed walks, and what a search over them finds is the bid's reply and term.
use Rattle.std.proofs.Common.{◌≡◌, ℕ, ◌<◌, Bool, true, false, List, [], ◌∷◌, map, length, Some, IsSome, refl, sym, ap, ◌∙◌, subst, arith, inl, inr}
use Rattle.std.specs.Prelude.{All, ◌⊎◌, ◌↔◌, ℤ, pos, ◌-ℤ◌, ◌≤ℤ◌, ◌<ℤ◌}
use Rattle.std.specs.Ordering.{is_gt}
use Rattle.std.proofs.lemmas.Int.{ints}
use Rattle.std.proofs.lemmas.List.Elements.{All-nil, All-cons, All-head, All-tail}
use Rattle.optra_network.specs.Net.{Net, IsProper}
use Rattle.optra_bid.specs.declared.bids.Bid.{Bid}
use Rattle.optra_walk.specs.declared.Leg.{Leg}
use Rattle.optra_walk.specs.Families.{Rows}
use Rattle.optra_walk.specs.Orders.{walk_cmp}
use Rattle.optra_walk.specs.Values.{first_departure}
use Rattle.optra_dag.specs.Paths.{Graph, LeadsToEnd, IsPath, IsFirstBest, weight_of, to_of}
use Rattle.optra_graph.specs.Timed.{Timed, IsGraphOf, IsRoute, IsLegArc, leg_of, leg_at, walk_of}
use Rattle.optra_node.specs.declared.Decision.{Decision}
use Rattle.optra_node.specs.Laws.{TestsTellAllowed}
use Rattle.optra_node.specs.Nodes.{has_yes, IsAllowed}
use Rattle.optra_node.specs.Spans.{IsLegOk}
use Rattle.optra_node.specs.Duals.{PriceList, sum_of, leg_price, reduced_value, IsTerm, IsStuck}
use Rattle.optra_node.proofs.SumLemmas.{sum_of-cons}
use Rattle.optra_walk.specs.Shares.{leg_value}
use Rattle.optra_prices.specs.Arcs.{AreWeighed, IsFound, path_reply}
use Rattle.optra_prices.specs.Replies.{IsFirstGreatest, IsReply}
use Rattle.optra_prices.proofs.ValueLemmas.{walk_sum}

-- a path of allowed arcs is a path, and each of its arcs is allowed
pub leads_on : (g : Graph) (allows : ℕ → Bool) (node : ℕ) (arcs : List ℕ) → LeadsToEnd g allows node arcs
    → LeadsToEnd g (λ _. true) node arcs × All (λ k. (k < length g.arcs) × (allows k ≡ true)) arcs
leads_on g allows node [] h = (h, All-nil (λ k. (k < length g.arcs) × (allows k ≡ true)))
leads_on g allows node (k ∷ arcs) h =
    let rest = leads_on g allows (to_of g k) arcs h.3 in
    ((h.0, refl, h.2, rest.0), All-cons (λ k. (k < length g.arcs) × (allows k ≡ true)) k arcs (h.0, h.1) rest.1)

pub leads_back : (g : Graph) (allows : ℕ → Bool) (node : ℕ) (arcs : List ℕ) → LeadsToEnd g (λ _. true) node arcs → All (λ k. allows k ≡ true) arcs → LeadsToEnd g allows node arcs
leads_back g allows node [] h all = h
leads_back g allows node (k ∷ arcs) h all =
    (h.0, All-head (λ k. allows k ≡ true) k arcs all, h.2, leads_back g allows (to_of g k) arcs h.3 (All-tail (λ k. allows k ≡ true) k arcs all))

-- each arc of a path is one of the graph
pub leads_within : (g : Graph) (node : ℕ) (arcs : List ℕ) → LeadsToEnd g (λ _. true) node arcs → All (λ k. k < length g.arcs) arcs
leads_within g node [] h = All-nil (λ k. k < length g.arcs)
leads_within g node (k ∷ arcs) h = All-cons (λ k. k < length g.arcs) k arcs h.0 (leads_within g (to_of g k) arcs h.3)

sum_of_less : {X : Type 0} (f g : X → ℤ) (xs : List X) → sum_of (λ x. f x -ℤ g x) xs ≡ sum_of f xs -ℤ sum_of g xs
sum_of_less f g [] = omega (arith, ints)
sum_of_less f g (x ∷ xs) =
    let a = sum_of-cons (λ x. f x -ℤ g x) x xs in
    let b = sum_of-cons f x xs in
    let c = sum_of-cons g x xs in
    let i = sum_of_less f g xs in
    omega (arith, ints)

-- the leg of a leg arc
pub leg_there : (t : Timed) (k : ℕ) → IsSome (leg_of t k) → leg_of t k ≡ Some (leg_at t k)
leg_there t k h = grind (arith, h)

module _ {R : Type 0} (net : Net) (proper : IsProper net) (rows : Rows R) (bids : List Bid) (law : TestsTellAllowed net rows bids) (node : List Decision) (prices : PriceList R) (number : ℕ) (bid : Bid) (t : Timed) (is_graph : IsGraphOf net bid.path t)
    (allows : ℕ → Bool) (weight : ℕ → ℤ) (are : AreWeighed net rows bids node prices number bid t allows weight) where
  abbrev gain : Leg → ℤ
  gain leg = leg_value net bid leg -ℤ leg_price rows prices bid.path.kind leg

  legs_weight : (arcs : List ℕ) → All (IsLegArc t) arcs → All (λ k. k < length t.dag.arcs) arcs → weight_of weight arcs ≡ sum_of gain (map (leg_at t) arcs)
  legs_weight [] legs within = refl
  legs_weight (k ∷ arcs) legs within =
      let i = legs_weight arcs (All-tail (IsLegArc t) k arcs legs) (All-tail (λ k. k < length t.dag.arcs) k arcs within) in
      let c = sum_of-cons gain (leg_at t k) (map (leg_at t) arcs) in
      let here = leg_there t k (All-head (IsLegArc t) k arcs legs).0 in
      let w = are.leg_weight k (leg_at t k) (All-head (λ k. k < length t.dag.arcs) k arcs within) here in
      omega (arith, ints)

  -- a route weighs what its walk is worth at the prices
  route_weight : (arcs : List ℕ) → IsRoute t arcs → weight_of weight arcs ≡ reduced_value net rows prices bid (walk_of t arcs)
  route_weight [] route = absurd (route.some refl)
  route_weight (k ∷ arcs) route =
      let begins = is_graph.begins (k ∷ arcs) route in
      let walk = is_graph.sound (k ∷ arcs) route in
      let within = leads_within t.dag 0 (k ∷ arcs) route.leads in
      let start = are.start_weight k (first_departure (walk_of t (k ∷ arcs))) (All-head (λ k. k < length t.dag.arcs) k arcs within) begins.0.0 in
      let legs = legs_weight arcs begins.1 (All-tail (λ k. k < length t.dag.arcs) k arcs within) in
      let less = sum_of_less (leg_value net bid) (leg_price rows prices bid.path.kind) (walk_of t (k ∷ arcs)) in
      let sum = walk_sum net bid proper (walk_of t (k ∷ arcs)) walk in
      omega (arith, ints)

  legs_ok : (arcs : List ℕ) → All (IsLegArc t) arcs → All (λ k. (k < length t.dag.arcs) × (allows k ≡ true)) arcs → All (IsLegOk net rows bids node number bid.path.kind) (map (leg_at t) arcs)
  legs_ok [] legs all = All-nil (IsLegOk net rows bids node number bid.path.kind)
  legs_ok (k ∷ arcs) legs all =
      let here = leg_there t k (All-head (IsLegArc t) k arcs legs).0 in
      let both = All-head (λ k. (k < length t.dag.arcs) × (allows k ≡ true)) k arcs all in
      All-cons (IsLegOk net rows bids node number bid.path.kind) (leg_at t k) (map (leg_at t) arcs) ((are.leg_allowed k (leg_at t k) both.0 here).0 both.1)
      (legs_ok arcs (All-tail (IsLegArc t) k arcs legs) (All-tail (λ k. (k < length t.dag.arcs) × (allows k ≡ true)) k arcs all))

  legs_allowed : (arcs : List ℕ) → All (IsLegArc t) arcs → All (λ k. k < length t.dag.arcs) arcs → All (IsLegOk net rows bids node number bid.path.kind) (map (leg_at t) arcs) → All (λ k. allows k ≡ true) arcs
  legs_allowed [] legs within ok = All-nil (λ k. allows k ≡ true)
  legs_allowed (k ∷ arcs) legs within ok =
      let here = leg_there t k (All-head (IsLegArc t) k arcs legs).0 in
      let is = All-head (IsLegOk net rows bids node number bid.path.kind) (leg_at t k) (map (leg_at t) arcs) ok in
      All-cons (λ k. allows k ≡ true) k arcs ((are.leg_allowed k (leg_at t k) (All-head (λ k. k < length t.dag.arcs) k arcs within) here).1 is)
      (legs_allowed arcs (All-tail (IsLegArc t) k arcs legs) (All-tail (λ k. k < length t.dag.arcs) k arcs within) (All-tail (IsLegOk net rows bids node number bid.path.kind) (leg_at t k) (map (leg_at t) arcs) ok))

  path_route : (arcs : List ℕ) → IsPath t.dag allows arcs → IsRoute t arcs
  path_route arcs path = record { some = path.some; leads = (leads_on t.dag allows 0 arcs path.leads).0 }

  -- the walk of an allowed path is allowed
  pub path_allowed : (arcs : List ℕ) → IsPath t.dag allows arcs → IsAllowed net rows bids node number bid (walk_of t arcs)
  path_allowed [] path = absurd (path.some refl)
  path_allowed (k ∷ arcs) path =
      let route = path_route (k ∷ arcs) path in
      let begins = is_graph.begins (k ∷ arcs) route in
      let walk = is_graph.sound (k ∷ arcs) route in
      let all = (leads_on t.dag allows 0 (k ∷ arcs) path.leads).1 in
      let first = All-head (λ k. (k < length t.dag.arcs) × (allows k ≡ true)) k arcs all in
      let start = (are.start_allowed k (first_departure (walk_of t (k ∷ arcs))) first.0 begins.0.0).0 first.1 in
      (law node number bid (walk_of t (k ∷ arcs)) walk).1 (start, legs_ok arcs begins.1 (All-tail (λ k. (k < length t.dag.arcs) × (allows k ≡ true)) k arcs all))

  route_path : (arcs : List ℕ) → IsRoute t arcs → IsAllowed net rows bids node number bid (walk_of t arcs) → IsPath t.dag allows arcs
  route_path [] route allowed = absurd (route.some refl)
  route_path (k ∷ arcs) route allowed =
      let begins = is_graph.begins (k ∷ arcs) route in
      let tests = (law node number bid (walk_of t (k ∷ arcs)) allowed.walk).0 allowed in
      let within = leads_within t.dag 0 (k ∷ arcs) route.leads in
      let start = (are.start_allowed k (first_departure (walk_of t (k ∷ arcs))) (All-head (λ k. k < length t.dag.arcs) k arcs within) begins.0.0).1 tests.0 in
      let legs = legs_allowed arcs begins.1 (All-tail (λ k. k < length t.dag.arcs) k arcs within) tests.1 in
      record { some = route.some; leads = leads_back t.dag allows 0 (k ∷ arcs) route.leads (All-cons (λ k. allows k ≡ true) k arcs start legs) }

  -- an allowed walk is that of an allowed path
  pub allowed_path : (legs : List Leg) → IsAllowed net rows bids node number bid legs → (arcs : List ℕ) × IsPath t.dag allows arcs × IsRoute t arcs × (walk_of t arcs ≡ legs)
  allowed_path legs allowed =
      let w = is_graph.whole legs allowed.walk in
      let path = route_path w.0 w.1 (subst (IsAllowed net rows bids node number bid) (sym w.2) allowed) in
      (w.0, path, w.1, w.2)

  -- the first best path is the first greatest walk
  pub best_walk : (arcs : List ℕ) (total : ℤ) → IsFirstBest t.dag allows weight total arcs
      → IsFirstGreatest net rows bids node prices number bid (walk_of t arcs) × (total ≡ reduced_value net rows prices bid (walk_of t arcs))
  best_walk arcs total best =
      let route = path_route arcs best.path in
      let worth : total ≡ reduced_value net rows prices bid (walk_of t arcs) = sym best.sum ∙ route_weight arcs route in (
        record {
          allowed = path_allowed arcs best.path;
          greatest = λ other allowed.
              let p = allowed_path other allowed in
              let most = best.greatest p.0 p.1 in
              let same = route_weight p.0 p.2 ∙ ap (reduced_value net rows prices bid) p.3 in
              omega (arith, ints);
          first = λ other allowed tie.
              let p = allowed_path other allowed in
              let same = route_weight p.0 p.2 ∙ ap (reduced_value net rows prices bid) p.3 in
              let first = best.first p.0 p.1 (same ∙ tie ∙ sym worth) in
              let order = is_graph.order arcs p.0 route p.2 ∙ ap (walk_cmp (walk_of t arcs)) p.3 in
              sym (ap is_gt order) ∙ first;
        },
        worth,
      )

  none_allowed : ((arcs : List ℕ) → IsPath t.dag allows arcs → ⊥) → (legs : List Leg) → IsAllowed net rows bids node number bid legs → ⊥
  none_allowed none legs allowed = let p = allowed_path legs allowed in none p.0 p.1

  gains_little : ((arcs : List ℕ) → IsPath t.dag allows arcs → weight_of weight arcs ≤ℤ pos 0) → (legs : List Leg) → IsAllowed net rows bids node number bid legs → reduced_value net rows prices bid legs ≤ℤ pos 0
  gains_little most legs allowed =
      let p = allowed_path legs allowed in
      let m = most p.0 p.1 in
      let same = route_weight p.0 p.2 ∙ ap (reduced_value net rows prices bid) p.3 in
      omega (arith, ints)

  pub found_reply : (forced stuck : Bool) (path : List ℕ) (term : ℤ) → forced ≡ has_yes node number → IsFound t.dag allows weight forced path term stuck → IsReply net rows bids node prices number bid (path_reply t path)
  found_reply forced stuck path term e (inl none) =
      subst (λ p. IsReply net rows bids node prices number bid (path_reply t p)) (sym none.path_is) (inl (none_allowed none.none))
  found_reply forced stuck path term e (inr (inl nothing)) =
      subst (λ p. IsReply net rows bids node prices number bid (path_reply t p)) (sym nothing.path_is) (inr (record { free = sym e ∙ nothing.free; most = gains_little nothing.most }))
  found_reply forced stuck [] term e (inr (inr found)) = absurd (found.best.path.some refl)
  found_reply forced stuck (k ∷ arcs) term e (inr (inr found)) =
      let best = best_walk (k ∷ arcs) term found.best in
      (best.0, worth found.worth best.1)
    where
      worth : ((forced ≡ true) ⊎ (pos 0 <ℤ term)) → term ≡ reduced_value net rows prices bid (walk_of t (k ∷ arcs)) → (has_yes node number ≡ true) ⊎ (pos 0 <ℤ reduced_value net rows prices bid (walk_of t (k ∷ arcs)))
      worth (inl f) q = inl (sym e ∙ f)
      worth (inr above) q = inr (subst (λ z. pos 0 <ℤ z) q above)

  -- the term is the greatest offer, or the bid is stuck and it is 0
  pub found_term : (forced stuck : Bool) (path : List ℕ) (term : ℤ) → forced ≡ has_yes node number → IsFound t.dag allows weight forced path term stuck → IsTerm net rows bids node prices number bid term
  found_term true stuck path term e (inl none) = inr (record { yes = sym e; none = none_allowed none.none }, none.term_is)
  found_term false stuck path term e (inl none) =
      inl (record {
        reached = inl (sym e, none.term_is);
        most = λ m offer. elim offer as (λ _. m ≤ℤ term) [
          | inl z ↦ let a = z.1 in let b = none.term_is in omega (arith, ints)
          | inr w ↦ absurd (none_allowed none.none w.0 w.1)
        ];
      })
  found_term forced stuck path term e (inr (inl nothing)) =
      inl (record {
        reached = inl (sym e ∙ nothing.free, nothing.term_is);
        most = λ m offer. elim offer as (λ _. m ≤ℤ term) [
          | inl z ↦ let a = z.1 in let b = nothing.term_is in omega (arith, ints)
          | inr w ↦ let a = w.2 in let g = gains_little nothing.most w.0 w.1 in let b = nothing.term_is in omega (arith, ints)
        ];
      })
  found_term forced stuck path term e (inr (inr found)) =
      let best = best_walk path term found.best in
      inl (record {
        reached = inr (walk_of t path, best.0.allowed, best.1);
        most = λ m offer. elim offer as (λ _. m ≤ℤ term) [
          | inl z ↦ zero_below m z found.worth
          | inr w ↦ let a = w.2 in let g = best.0.greatest w.0 w.1 in let b = best.1 in omega (arith, ints)
        ];
      })
    where
      clash : false ≡ true → ⊥
      clash q = cc

      zero_below : (m : ℤ) → (has_yes node number ≡ false) × (m ≡ pos 0) → ((forced ≡ true) ⊎ (pos 0 <ℤ term)) → m ≤ℤ term
      zero_below m z (inl f) = absurd (clash (sym z.0 ∙ sym e ∙ f))
      zero_below m z (inr above) = let a = z.1 in omega (arith, ints)

  -- the bid is stuck exactly where the search says so, whatever the arcs weighed
  pub found_stuck : (weighed : ℕ → ℤ) (forced stuck : Bool) (path : List ℕ) (term : ℤ) → forced ≡ has_yes node number → IsFound t.dag allows weighed forced path term stuck
      → (stuck ≡ true) ↔ IsStuck net rows bids node number bid
  found_stuck weighed forced stuck path term e (inl none) =
      ((λ s. record { yes = sym e ∙ sym none.stuck_is ∙ s; none = none_allowed none.none }), (λ is. none.stuck_is ∙ e ∙ is.yes))
  found_stuck weighed forced stuck path term e (inr (inl nothing)) =
      ((λ s. absurd (clash (sym nothing.stuck_is ∙ s))), (λ is. absurd (clash (sym nothing.free ∙ e ∙ is.yes))))
    where
      clash : false ≡ true → ⊥
      clash q = cc
  found_stuck weighed forced stuck path term e (inr (inr found)) =
      ((λ s. absurd (clash (sym found.stuck_is ∙ s))), (λ is. absurd (is.none (walk_of t path) (path_allowed path found.best.path))))
    where
      clash : false ≡ true → ⊥
      clash q = cc
