-- A graph that stands for the states has the walks as its paths.
use Rattle.std.proofs.Common.{◌≡◌, ◌≢◌, ℕ, ◌+◌, ◌≤◌, ◌<◌, ◌⊎◌, inl, inr, ⊎_elim, true, List, [], ◌∷◌, length, map, get_or, Some, refl, sym, ap, ◌∙◌, subst, arith, nat_cmp, Ordering, Less, Equal, Greater, true≢false, All, Contains, is_some, cond, None, nat_lt, slice_get, false, zero, suc}
use Rattle.std.specs.Ordering.{ordering_then, ordering_reverse}
use Rattle.std.specs.Cmp.Lexicographic.{slice_cmp}
use Rattle.std.specs.List.{AllPairs}
use Rattle.std.proofs.lemmas.Bool.{cases_lt, cases_eq}
use Rattle.std.proofs.lemmas.List.{get_or-map, length-map}
use Rattle.std.proofs.lemmas.List.Elements.{All-map, All-nil, All-cons, All-head, All-tail, Contains-append_right}
use Rattle.std.proofs.lemmas.Option.{slice_get-get_or}
use Rattle.std.proofs.Math.Nat.{eq-or-lt_of_le}
use Rattle.optra_network.specs.Net.{Net}
use Rattle.optra_bid.specs.Specs.{Path}
use Rattle.optra_dag.specs.Paths.{LeadsToEnd, IsEnd, from_of, to_of}
use Rattle.optra_walk.specs.declared.Action.TheVariants.{Finish}
use Rattle.optra_walk.specs.declared.Leg.{Leg}
use Rattle.optra_walk.specs.Legs.{is_finish}
use Rattle.optra_walk.specs.Values.{first_departure}
use Rattle.optra_walk.specs.Walks.{IsWalk}
use Rattle.optra_walk.specs.Orders.{leg_cmp, walk_cmp}
use Rattle.optra_graph.specs.Timed.{Timed, AreAllWalks, leg_at, walk_of, IsRoute, AreAllRoutes, IsLegArc, IsStartArc, BeginsOnce, IsGraphOf}
use Rattle.optra_walk.specs.declared.state.State.{State}
use Rattle.optra_walk.specs.Moves.{start_state, IsMove, IsAfter, Runs}
use Rattle.optra_graph.specs.Graphs.{state_at, IsStateNode, LeadsOn, IsTimed}
use Rattle.optra_graph.proofs.AllRoutes.{all_routes}
use Rattle.optra_graph.proofs.StepLemmas.{after_once}
use Rattle.optra_graph.proofs.RunLemmas.{runs_of_walk, walk_of_runs, not_finish}
use Rattle.optra_graph.proofs.OrderLemmas.{nat_same, nat_less, nat_greater, leg_same, leg_turned}

module _ (net : Net) (path : Path) (t : Timed) (states : List State) (h : IsTimed net path t states) where
  abbrev Leads : ℕ → List ℕ → Type 0
  Leads n ks = LeadsToEnd t.dag (λ _. true) n ks

  -- an arc of a state node is the arc of a leg
  is_leg : (n k : ℕ) → 1 ≤ n → from_of t.dag k ≡ n → length t.minutes ≤ k
  is_leg n k l e = by (cases_lt k (length t.minutes))
    where
      by : (k < length t.minutes) ⊎ (length t.minutes ≤ k) → length t.minutes ≤ k
      by (inl b) = let z = h.start_from k b in absurd (omega arith)
      by (inr b) = b

  -- no arc leaves the end
  at_end : (n : ℕ) (ks : List ℕ) → n ≡ length states + 1 → Leads n ks → ks ≡ []
  at_end n [] e w = refl
  at_end n (k ∷ ks) e w =
      let f : from_of t.dag k ≡ n = w.2 in
      let leg = is_leg n k (omega arith) f in
      let s = h.leg_from k leg w.0 in
      absurd (omega (arith, s.1))

  route_runs : (n : ℕ) (ks : List ℕ) → IsStateNode states n → Leads n ks → Runs net path (state_at states n) (map (leg_at t) ks)
  route_runs n [] s w = let e = h.ends n w in absurd (omega (arith, s.1))
  route_runs n (k ∷ ks) s w = (subst (λ m. IsMove net path (state_at states m) (leg_at t k)) w.2 (h.leg_move k leg w.0), by (λ s'. route_runs (to_of t.dag k) ks s' w.3) (subst (λ m. LeadsOn net path states (state_at states m) (leg_at t k) (to_of t.dag k)) w.2 (h.leg_to k leg w.0)))
    where
      leg : length t.minutes ≤ k
      leg = is_leg n k s.0 w.2

      by : (IsStateNode states (to_of t.dag k) → Runs net path (state_at states (to_of t.dag k)) (map (leg_at t) ks)) → LeadsOn net path states (state_at states n) (leg_at t k) (to_of t.dag k)
          → (((leg_at t k).action ≡ Finish) × (map (leg_at t) ks ≡ [])) ⊎ ((after : State) × IsAfter net path (state_at states n) (leg_at t k) after × Runs net path after (map (leg_at t) ks))
      by on (inl f) = inl (f.0, ap (map (leg_at t)) (at_end (to_of t.dag k) ks f.1 w.3))
      by on (inr f) = inr (state_at states (to_of t.dag k), f.1, on f.0)

  first_runs : (k : ℕ) (ks : List ℕ) → Leads 0 (k ∷ ks) → (k < length t.minutes) × Runs net path (start_state path (get_or t.minutes k 0)) (map (leg_at t) ks)
  first_runs k ks w =
      let b = h.start_only k w.0 w.2 in
      let s = h.start_to k b in
      (b, subst (λ x. Runs net path x (map (leg_at t) ks)) s.1 (route_runs (to_of t.dag k) ks s.0 w.3))

  sound_of : (arcs : List ℕ) → IsRoute t arcs → IsWalk net path (walk_of t arcs)
  sound_of [] r = absurd (r.some refl)
  sound_of (k ∷ ks) r =
      let f = first_runs k ks r.leads in
      walk_of_runs net path (map (leg_at t) ks) (get_or t.minutes k 0) (h.start_within k f.0) f.1

  runs_route : (legs : List Leg) (n : ℕ) → IsStateNode states n → Runs net path (state_at states n) legs → (ks : List ℕ) × Leads n ks × (map (leg_at t) ks ≡ legs)
  runs_route [] n s w = absurd w
  runs_route (leg ∷ rest) n s w = by (λ m s' w'. runs_route rest m s' w') w.1 on
    where
      arc : (k : ℕ) × (length t.minutes ≤ k) × (k < length t.dag.arcs) × (from_of t.dag k ≡ n) × (leg_at t k ≡ leg)
      arc = h.leg_all n s leg rest w

      on : LeadsOn net path states (state_at states n) leg (to_of t.dag arc.0)
      on = subst (λ x. LeadsOn net path states (state_at states n) x (to_of t.dag arc.0)) arc.4
          (subst (λ m. LeadsOn net path states (state_at states m) (leg_at t arc.0) (to_of t.dag arc.0)) arc.3 (h.leg_to arc.0 arc.1 arc.2))

      by : ((m : ℕ) → IsStateNode states m → Runs net path (state_at states m) rest → (ks : List ℕ) × Leads m ks × (map (leg_at t) ks ≡ rest))
          → ((leg.action ≡ Finish) × (rest ≡ [])) ⊎ ((after : State) × IsAfter net path (state_at states n) leg after × Runs net path after rest)
          → LeadsOn net path states (state_at states n) leg (to_of t.dag arc.0)
          → (ks : List ℕ) × Leads n ks × (map (leg_at t) ks ≡ leg ∷ rest)
      by more (inl f) (inl e) = (arc.0 ∷ [], (arc.2, refl, arc.3, subst (λ m. IsEnd t.dag m) (sym e.1) h.end), (λ i. arc.4 i ∷ sym f.1 i))
      by more (inl f) (inr e) = absurd (true≢false (sym (ap is_finish f.0) ∙ not_finish net path leg _ e.1.time leg.action refl))
      by more (inr f) (inl e) = absurd (true≢false (sym (ap is_finish e.0) ∙ not_finish net path leg _ f.1.time leg.action refl))
      by more (inr f) (inr e) =
          let same = after_once net path (state_at states n) leg f.0 (state_at states (to_of t.dag arc.0)) f.1 e.1 in
          let r = more (to_of t.dag arc.0) e.0 (subst (λ x. Runs net path x rest) same f.2) in
          (arc.0 ∷ r.0, (arc.2, refl, arc.3, r.1), (λ i. arc.4 i ∷ r.2 i))

  whole_of : (legs : List Leg) → IsWalk net path legs → (arcs : List ℕ) × IsRoute t arcs × (walk_of t arcs ≡ legs)
  whole_of legs w =
      let runs = runs_of_walk net path legs w in
      let s = h.start_all (first_departure legs) runs.0 legs runs.1 in
      let to = h.start_to s.0 s.1 in
      let same : start_state path (first_departure legs) ≡ state_at states (to_of t.dag s.0) = ap (start_state path) (sym s.2) ∙ sym to.1 in
      let r = runs_route legs (to_of t.dag s.0) to.0 (subst (λ x. Runs net path x legs) same runs.1) in
      (s.0 ∷ r.0, record { some = λ e. cc; leads = (starts_below s.0 s.1, refl, h.start_from s.0 s.1, r.1) }, r.2)
    where
      starts_below : (k : ℕ) → k < length t.minutes → k < length t.dag.arcs
      starts_below k l = let s = h.count in omega arith

  three : (a b : ℕ) → (a < b) ⊎ ((a ≡ b) ⊎ (b < a))
  three a b = by (cases_lt a b)
    where
      by : (a < b) ⊎ (b ≤ a) → (a < b) ⊎ ((a ≡ b) ⊎ (b < a))
      by (inl l) = inl l
      by (inr l) = ⊎_elim (λ e. inr (inl (sym e))) (λ m. inr (inr m)) (eq-or-lt_of_le l)

  order_from : (n : ℕ) (p q : List ℕ) → IsStateNode states n → Leads n p → Leads n q → slice_cmp nat_cmp p q ≡ slice_cmp leg_cmp (map (leg_at t) p) (map (leg_at t) q)
  order_from n [] [] s v w = refl
  order_from n [] (b ∷ q) s v w = refl
  order_from n (a ∷ p) [] s v w = refl
  order_from n (a ∷ p) (b ∷ q) s v w = by (λ m s' v' w'. order_from m p q s' v' w') (three a b)
    where
      leg_a : length t.minutes ≤ a
      leg_a = is_leg n a s.0 v.2

      leg_b : length t.minutes ≤ b
      leg_b = is_leg n b s.0 w.2

      both : (o c : Ordering) → o ≡ c → c ≢ Equal → nat_cmp a b ≡ o → leg_cmp (leg_at t a) (leg_at t b) ≡ c
          → slice_cmp nat_cmp (a ∷ p) (b ∷ q) ≡ slice_cmp leg_cmp (map (leg_at t) (a ∷ p)) (map (leg_at t) (b ∷ q))
      both o Less e n x y = ap (λ (z : Ordering). ordering_then z (slice_cmp nat_cmp p q)) (x ∙ e) ∙ sym (ap (λ (z : Ordering). ordering_then z (slice_cmp leg_cmp (map (leg_at t) p) (map (leg_at t) q))) y)
      both o Equal e n x y = absurd (n refl)
      both o Greater e n x y = ap (λ (z : Ordering). ordering_then z (slice_cmp nat_cmp p q)) (x ∙ e) ∙ sym (ap (λ (z : Ordering). ordering_then z (slice_cmp leg_cmp (map (leg_at t) p) (map (leg_at t) q))) y)

      rest_same : ((m : ℕ) → IsStateNode states m → Leads m p → Leads m q → slice_cmp nat_cmp p q ≡ slice_cmp leg_cmp (map (leg_at t) p) (map (leg_at t) q)) → LeadsOn net path states (state_at states n) (leg_at t a) (to_of t.dag a) → Leads (to_of t.dag a) q → slice_cmp nat_cmp p q ≡ slice_cmp leg_cmp (map (leg_at t) p) (map (leg_at t) q)
      rest_same more (inl e) u =
          let x = at_end (to_of t.dag a) p e.1 v.3 in
          let y = at_end (to_of t.dag a) q e.1 u in
          (λ i. slice_cmp nat_cmp (x i) (y i)) ∙ sym (λ i. slice_cmp leg_cmp (map (leg_at t) (x i)) (map (leg_at t) (y i)))
      rest_same more (inr e) u = more (to_of t.dag a) e.0 v.3 u

      by : ((m : ℕ) → IsStateNode states m → Leads m p → Leads m q → slice_cmp nat_cmp p q ≡ slice_cmp leg_cmp (map (leg_at t) p) (map (leg_at t) q)) → (a < b) ⊎ ((a ≡ b) ⊎ (b < a)) → slice_cmp nat_cmp (a ∷ p) (b ∷ q) ≡ slice_cmp leg_cmp (map (leg_at t) (a ∷ p)) (map (leg_at t) (b ∷ q))
      by more (inl l) = both Less Less refl (λ e. cc) (nat_less a b l) (h.leg_order a b l w.0 leg_a (v.2 ∙ sym w.2))
      by more (inr (inl e)) =
          ap (λ (z : Ordering). ordering_then z (slice_cmp nat_cmp p q)) (subst (λ x. nat_cmp a x ≡ Equal) e (nat_same a))
          ∙ rest_same more (subst (λ m. LeadsOn net path states (state_at states m) (leg_at t a) (to_of t.dag a)) v.2 (h.leg_to a leg_a v.0)) (subst (λ x. Leads (to_of t.dag x) q) (sym e) w.3)
          ∙ sym (ap (λ (z : Ordering). ordering_then z (slice_cmp leg_cmp (map (leg_at t) p) (map (leg_at t) q))) (subst (λ x. leg_cmp (leg_at t a) (leg_at t x) ≡ Equal) e (leg_same (leg_at t a))))
      by more (inr (inr l)) = both Greater Greater refl (λ e. cc) (nat_greater a b l)
          (leg_turned (leg_at t a) (leg_at t b) ∙ ap ordering_reverse (h.leg_order b a l v.0 leg_b (w.2 ∙ sym v.2)))

  first_departs : (k : ℕ) (ks : List ℕ) → Leads 0 (k ∷ ks) → first_departure (map (leg_at t) ks) ≡ get_or t.minutes k 0
  first_departs k ks w = let f = first_runs k ks w in by (map (leg_at t) ks) (get_or t.minutes k 0) f.1
    where
      by : (legs : List Leg) (m : ℕ) → Runs net path (start_state path m) legs → first_departure legs ≡ m
      by [] m r = absurd r
      by (leg ∷ rest) m r = r.0.time

  order_of : (p q : List ℕ) → IsRoute t p → IsRoute t q → slice_cmp nat_cmp p q ≡ walk_cmp (walk_of t p) (walk_of t q)
  order_of [] q v w = absurd (v.some refl)
  order_of (a ∷ p) [] v w = absurd (w.some refl)
  order_of (a ∷ p) (b ∷ q) v w = by (three a b)
    where
      start_a : a < length t.minutes
      start_a = h.start_only a v.leads.0 v.leads.2

      start_b : b < length t.minutes
      start_b = h.start_only b w.leads.0 w.leads.2

      da : first_departure (map (leg_at t) p) ≡ get_or t.minutes a 0
      da = first_departs a p v.leads

      db : first_departure (map (leg_at t) q) ≡ get_or t.minutes b 0
      db = first_departs b q w.leads

      first : (o : Ordering) → o ≢ Equal → nat_cmp a b ≡ o → nat_cmp (first_departure (map (leg_at t) p)) (first_departure (map (leg_at t) q)) ≡ o
          → slice_cmp nat_cmp (a ∷ p) (b ∷ q) ≡ walk_cmp (walk_of t (a ∷ p)) (walk_of t (b ∷ q))
      first Less n x y = ap (λ (z : Ordering). ordering_then z (slice_cmp nat_cmp p q)) x ∙ sym (ap (λ (z : Ordering). ordering_then z (slice_cmp leg_cmp (map (leg_at t) p) (map (leg_at t) q))) y)
      first Equal n x y = absurd (n refl)
      first Greater n x y = ap (λ (z : Ordering). ordering_then z (slice_cmp nat_cmp p q)) x ∙ sym (ap (λ (z : Ordering). ordering_then z (slice_cmp leg_cmp (map (leg_at t) p) (map (leg_at t) q))) y)

      by : (a < b) ⊎ ((a ≡ b) ⊎ (b < a)) → slice_cmp nat_cmp (a ∷ p) (b ∷ q) ≡ walk_cmp (walk_of t (a ∷ p)) (walk_of t (b ∷ q))
      by (inl l) = first Less (λ e. cc) (nat_less a b l) ((λ i. nat_cmp (da i) (db i)) ∙ nat_less _ _ (h.start_order a b l start_b))
      by (inr (inr l)) = first Greater (λ e. cc) (nat_greater a b l) ((λ i. nat_cmp (da i) (db i)) ∙ nat_greater _ _ (h.start_order b a l start_a))
      by (inr (inl e)) =
          ap (λ (z : Ordering). ordering_then z (slice_cmp nat_cmp p q)) (subst (λ x. nat_cmp a x ≡ Equal) e (nat_same a))
          ∙ order_from (to_of t.dag a) p q (h.start_to a start_a).0 v.leads.3 (subst (λ x. Leads (to_of t.dag x) q) (sym e) w.leads.3)
          ∙ sym (ap (λ (z : Ordering). ordering_then z (slice_cmp leg_cmp (map (leg_at t) p) (map (leg_at t) q))) ((λ i. nat_cmp (da i) (db i)) ∙ subst (λ x. nat_cmp (get_or t.minutes a 0) (get_or t.minutes x 0) ≡ Equal) e (nat_same (get_or t.minutes a 0))))

  -- ---- one path for each walk

  list_same : (p q : List ℕ) → slice_cmp nat_cmp p q ≡ Equal → p ≡ q
  list_same [] [] e = refl
  list_same [] (b ∷ q) e = cc
  list_same (a ∷ p) [] e = cc
  list_same (a ∷ p) (b ∷ q) e = by (three a b) (list_same p q)
    where
      by : (a < b) ⊎ ((a ≡ b) ⊎ (b < a)) → (slice_cmp nat_cmp p q ≡ Equal → p ≡ q) → a ∷ p ≡ b ∷ q
      by (inl l) more = let f : ordering_then Less (slice_cmp nat_cmp p q) ≡ Equal = ap (λ (z : Ordering). ordering_then z (slice_cmp nat_cmp p q)) (sym (nat_less a b l)) ∙ e in cc
      by (inr (inl f)) more =
          let g : nat_cmp a b ≡ Equal = subst (λ x. nat_cmp a x ≡ Equal) f (nat_same a) in
          let rest = more (ap (λ (z : Ordering). ordering_then z (slice_cmp nat_cmp p q)) (sym g) ∙ e) in
          λ i. f i ∷ rest i
      by (inr (inr l)) more = let f : ordering_then Greater (slice_cmp nat_cmp p q) ≡ Equal = ap (λ (z : Ordering). ordering_then z (slice_cmp nat_cmp p q)) (sym (nat_greater a b l)) ∙ e in cc

  legs_same : (w : List Leg) → slice_cmp leg_cmp w w ≡ Equal
  legs_same [] = refl
  legs_same (leg ∷ w) = ap (λ (z : Ordering). ordering_then z (slice_cmp leg_cmp w w)) (leg_same leg) ∙ legs_same w

  walk_same : (w : List Leg) → walk_cmp w w ≡ Equal
  walk_same w = ap (λ (z : Ordering). ordering_then z (slice_cmp leg_cmp w w)) (nat_same (first_departure w)) ∙ legs_same w

  once_of : (p q : List ℕ) → IsRoute t p → IsRoute t q → walk_of t p ≡ walk_of t q → p ≡ q
  once_of p q v w e = list_same p q (order_of p q v w ∙ ap (walk_cmp (walk_of t p)) (sym e) ∙ walk_same (walk_of t p))

  -- ---- the first arc is a start arc, and the others are those of legs

  leg_arc : (k : ℕ) → length t.minutes ≤ k → IsLegArc t k
  leg_arc k l = (
    ap (λ b. is_some (cond b None (Some (leg_at t k)))) (not_below k (length t.minutes) l),
    beyond t.minutes k l,
  )
    where
      not_below : (a b : ℕ) → b ≤ a → nat_lt a b ≡ false
      not_below a b l = grind arith

      beyond : (xs : List ℕ) (k : ℕ) → length xs ≤ k → slice_get xs k ≡ None
      beyond [] zero l = refl
      beyond [] (suc k) l = refl
      beyond (x ∷ xs) zero l = absurd (omega arith)
      beyond (x ∷ xs) (suc k) l = beyond xs k (omega arith)

  start_arc : (k : ℕ) (m : ℕ) → k < length t.minutes → m ≡ get_or t.minutes k 0 → IsStartArc t m k
  start_arc k m l e = (
    slice_get-get_or t.minutes k 0 l ∙ ap Some (sym e),
    ap (λ b. cond b None (Some (leg_at t k))) (is_below k (length t.minutes) l),
  )
    where
      is_below : (a b : ℕ) → a < b → nat_lt a b ≡ true
      is_below a b l = grind arith

  legs_on : (n : ℕ) (ks : List ℕ) → IsStateNode states n → Leads n ks → All (IsLegArc t) ks
  legs_on n [] s w = All-nil (IsLegArc t)
  legs_on n (k ∷ ks) s w = All-cons (IsLegArc t) k ks (leg_arc k leg) (by (h.leg_to k leg w.0) (λ s'. legs_on (to_of t.dag k) ks s' w.3))
    where
      leg : length t.minutes ≤ k
      leg = is_leg n k s.0 w.2

      by : LeadsOn net path states (state_at states (from_of t.dag k)) (leg_at t k) (to_of t.dag k) → (IsStateNode states (to_of t.dag k) → All (IsLegArc t) ks) → All (IsLegArc t) ks
      by (inl f) on = subst (All (IsLegArc t)) (sym (at_end (to_of t.dag k) ks f.1 w.3)) (All-nil (IsLegArc t))
      by (inr f) on = on f.0

  begins_of : (arcs : List ℕ) → IsRoute t arcs → BeginsOnce t arcs
  begins_of [] r = absurd (r.some refl)
  begins_of (k ∷ ks) r =
      let b = h.start_only k r.leads.0 r.leads.2 in
      let s = h.start_to k b in
      (start_arc k (first_departure (map (leg_at t) ks)) b (first_departs k ks r.leads), legs_on (to_of t.dag k) ks s.0 r.leads.3)

  -- ---- every arc lies on a path

  forth : (fuel n : ℕ) → length states + 1 ≤ n + fuel → IsStateNode states n ⊎ (n ≡ length states + 1) → (ks : List ℕ) × Leads n ks
  forth fuel n l (inr e) = ([], subst (λ m. IsEnd t.dag m) (sym e) h.end)
  forth zero n l (inl s) = absurd (omega (arith, s.1))
  forth (suc fuel) n l (inl s) =
      let w = h.goes n s in
      let leg = is_leg n w.0 s.0 w.2 in
      let up = h.forward.forward w.0 w.1 in
      let on = forth fuel (to_of t.dag w.0) (omega (arith, up, w.2)) (by (h.leg_to w.0 leg w.1)) in
      (w.0 ∷ on.0, (w.1, refl, w.2, on.1))
    where
      by : {s : State} {leg : Leg} {to : ℕ} → LeadsOn net path states s leg to → IsStateNode states to ⊎ (to ≡ length states + 1)
      by (inl f) = inr f.1
      by (inr f) = inl f.0

  back : (fuel n : ℕ) → n ≤ fuel → IsStateNode states n → (rest : List ℕ) → Leads n rest → (ks : List ℕ) × Leads 0 ks × ((x : ℕ) → Contains rest x → Contains ks x)
  back zero n l s rest w = absurd (omega (arith, s.0))
  back (suc fuel) n l s rest w = by (cases_eq (from_of t.dag into.0) 0) (λ m s' le w'. back fuel m le s' (into.0 ∷ rest) w')
    where
      into : (k : ℕ) × (k < length t.dag.arcs) × (to_of t.dag k ≡ n)
      into = h.comes n s

      on : (m : ℕ) → from_of t.dag into.0 ≡ m → Leads m (into.0 ∷ rest)
      on m e = (into.1, refl, e, subst (λ x. Leads x rest) (sym into.2) w)

      by : (from_of t.dag into.0 ≡ 0) ⊎ (from_of t.dag into.0 ≡ 0 → ⊥) → ((m : ℕ) → IsStateNode states m → m ≤ fuel → Leads m (into.0 ∷ rest) → (ks : List ℕ) × Leads 0 ks × ((x : ℕ) → Contains (into.0 ∷ rest) x → Contains ks x))
          → (ks : List ℕ) × Leads 0 ks × ((x : ℕ) → Contains rest x → Contains ks x)
      by (inl e) more = (into.0 ∷ rest, on 0 e, λ x c. Contains-append_right (into.0 ∷ []) rest x c)
      by (inr e) more =
          let leg : length t.minutes ≤ into.0 = is_leg (from_of t.dag into.0) into.0 (omega (arith, e)) refl in
          let up = h.forward.forward into.0 into.1 in
          let to = into.2 in
          let v = more (from_of t.dag into.0) (h.leg_from into.0 leg into.1) (omega arith) (on (from_of t.dag into.0) refl) in
          (v.0, v.1, λ x c. v.2 x (Contains-append_right (into.0 ∷ []) rest x c))

  trimmed_of : (k : ℕ) → k < length t.dag.arcs → (arcs : List ℕ) × IsRoute t arcs × Contains arcs k
  trimmed_of k l = by (cases_lt k (length t.minutes))
    where
      some : (ks : List ℕ) → Contains ks k → ks ≡ [] → ⊥
      some ks c e = let b : c.0 < length ks = c.1 in let n = ap length e in omega arith

      by : (k < length t.minutes) ⊎ (length t.minutes ≤ k) → (arcs : List ℕ) × IsRoute t arcs × Contains arcs k
      by (inl m) =
          let s = h.start_to k m in
          let on = forth (length states + 1) (to_of t.dag k) (omega arith) (inl s.0) in
          (k ∷ on.0, record { some = λ e. cc; leads = (l, refl, h.start_from k m, on.1) }, (0, omega arith, refl))
      by (inr m) =
          let on = forth (length states + 1) (to_of t.dag k) (omega arith) (to (h.leg_to k m l)) in
          let w = back (from_of t.dag k) (from_of t.dag k) (omega arith) (h.leg_from k m l) (k ∷ on.0) (l, refl, refl, on.1) in
          let c = w.2 k (0, omega arith, refl) in
          (w.0, record { some = some w.0 c; leads = w.1 }, c)
        where
          to : {s : State} {leg : Leg} {to : ℕ} → LeadsOn net path states s leg to → IsStateNode states to ⊎ (to ≡ length states + 1)
          to (inl f) = inr f.1
          to (inr f) = inl f.0

  -- ---- the list of all paths is that of all walks

  choose : (ws : List (List Leg)) → All (IsWalk net path) ws → (rs : List (List ℕ)) × (map (walk_of t) rs ≡ ws) × All (IsRoute t) rs
  choose [] a = ([], refl, All-nil (IsRoute t))
  choose (w ∷ ws) a =
      let r = whole_of w (All-head (IsWalk net path) w ws a) in
      let rest = choose ws (All-tail (IsWalk net path) w ws a) in
      (r.0 ∷ rest.0, (λ i. r.2 i ∷ rest.1 i), All-cons (IsRoute t) r.0 rest.0 r.1 rest.2)

  listed_of : (walks : List (List Leg)) → AreAllWalks net path walks → (routes : List (List ℕ)) × AreAllRoutes t routes × (map (walk_of t) routes ≡ walks)
  listed_of walks all = (rs, record { sound = c.2; whole = whole; ascending = ascending }, c.1)
    where
      c : (rs : List (List ℕ)) × (map (walk_of t) rs ≡ walks) × All (IsRoute t) rs
      c = choose walks all.sound

      rs : List (List ℕ)
      rs = c.0

      walk_at : (k : ℕ) (d : List ℕ) (e : List Leg) → k < length rs → get_or walks k e ≡ walk_of t (get_or rs k d)
      walk_at k d e l = ap (λ (ws : List (List Leg)). get_or ws k e) (sym c.1) ∙ get_or-map (walk_of t) rs k d e l

      count : length walks ≡ length rs
      count = ap length (sym c.1) ∙ length-map rs (walk_of t)

      whole : (arcs : List ℕ) → IsRoute t arcs → Contains rs arcs
      whole arcs r =
          let w = all.whole (walk_of t arcs) (sound_of arcs r) in
          let l : w.0 < length rs = omega (arith, w.1, count) in
          (w.0, l, once_of (get_or rs w.0 arcs) arcs (c.2 w.0 arcs l) r (sym (walk_at w.0 arcs (walk_of t arcs) l) ∙ w.2))

      ascending : AllPairs (λ a b. slice_cmp nat_cmp a b ≡ Less) rs
      ascending i j d l m =
          let up = all.ascending i j [] l (omega (arith, m, count)) in
          order_of (get_or rs i d) (get_or rs j d) (c.2 i d (omega arith)) (c.2 j d m)
          ∙ (λ x. walk_cmp (sym (walk_at i d [] (omega arith)) x) (sym (walk_at j d [] m) x)) ∙ up

  all_of : (walks : List (List Leg)) × (routes : List (List ℕ)) × AreAllWalks net path walks × AreAllRoutes t routes × (map (walk_of t) routes ≡ walks)
  all_of = (map (walk_of t) rs, rs, record { sound = sound; whole = whole; ascending = ascending }, r.1, refl)
    where
      r : (routes : List (List ℕ)) × AreAllRoutes t routes
      r = all_routes t h.forward

      rs : List (List ℕ)
      rs = r.0

      n : length (map (walk_of t) rs) ≡ length rs
      n = length-map rs (walk_of t)

      sound : All (IsWalk net path) (map (walk_of t) rs)
      sound = All-map (IsWalk net path) (walk_of t) rs (λ k d l. sound_of (get_or rs k d) (r.1.sound k d l))

      whole : (legs : List Leg) → IsWalk net path legs → Contains (map (walk_of t) rs) legs
      whole legs w =
          let v = whole_of legs w in
          let c = r.1.whole v.0 v.1 in
          (c.0, omega (arith, c.1, n), get_or-map (walk_of t) rs c.0 v.0 legs c.1 ∙ ap (walk_of t) c.2 ∙ v.2)

      ascending : AllPairs (λ a b. walk_cmp a b ≡ Less) (map (walk_of t) rs)
      ascending i j d l m =
          let a = get_or-map (walk_of t) rs i [] d (omega (arith, n)) in
          let b = get_or-map (walk_of t) rs j [] d (omega (arith, n)) in
          (λ x. walk_cmp (a x) (b x)) ∙ sym (order_of (get_or rs i []) (get_or rs j []) (r.1.sound i [] (omega (arith, n))) (r.1.sound j [] (omega (arith, n)))) ∙ r.1.ascending i j [] l (omega (arith, n))

  empty_of : ((legs : List Leg) → IsWalk net path legs → ⊥) → t.dag.arcs ≡ []
  empty_of none = by t.dag.arcs (λ l. let w = trimmed_of 0 l in none (walk_of t w.0) (sound_of w.0 w.1))
    where
      by : {X : Type 0} (xs : List X) → (0 < length xs → ⊥) → xs ≡ []
      by [] f = refl
      by (x ∷ xs) f = absurd (f (omega arith))

  -- so its paths are the walks, in walk order
  pub graph_of_timed : IsGraphOf net path t
  graph_of_timed = record {
    sound = sound_of;
    whole = whole_of;
    once = once_of;
    order = order_of;
    begins = begins_of;
    trimmed = trimmed_of;
    all = all_of;
    listed = listed_of;
    empty = empty_of;
    laid_out = record { forward = h.forward; arcs = h.count; starts = h.start_from; others = h.start_only };
  }
