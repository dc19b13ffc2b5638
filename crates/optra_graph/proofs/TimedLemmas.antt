-- The arcs of the starts and of the kept places make a graph whose nodes stand for states.
use Rattle.std.proofs.Common.{◌≡◌, ℕ, ◌+◌, ◌-◌, ◌≤◌, ◌<◌, ◌⊎◌, inl, inr, Bool, true, false, List, ◌∷◌, length, get_or, set, replicate, sym, ap, ◌∙◌, subst, arith, Less, length-set}
use Rattle.std.proofs.lemmas.Bool.{cases_lt}
use Rattle.std.proofs.lemmas.List.{get_or-map, length-map}
use Rattle.std.proofs.lemmas.List.{length-replicate}
use Rattle.optra_dag.specs.declared.Arc.{Arc}
use Rattle.optra_dag.specs.Paths.{IsForward, no_arc}
use Rattle.optra_network.specs.Net.{Net, IsFromTo}
use Rattle.optra_bid.specs.Specs.{Path}
use Rattle.optra_walk.specs.declared.Leg.{Leg}
use Rattle.optra_walk.specs.Orders.{leg_cmp}
use Rattle.optra_walk.specs.declared.state.State.{State}
use Rattle.optra_graph.specs.declared.states.Layout.{Layout}
use Rattle.optra_graph.specs.declared.stepping.Step.{Step}
use Rattle.optra_graph.specs.Arcs.{start_arc, Starts, IsKeptStep, Emits}
use Rattle.optra_graph.specs.Flags.{IsSet, IsStartPlace, IsSteppedTo, IsKept}
use Rattle.optra_graph.specs.Graphs.{state_at, IsStateNode, LeadsOn, IsTimed}
use Rattle.optra_walk.specs.Moves.{start_state, IsMove, IsAfter, Runs}
use Rattle.optra_graph.specs.Nodes.{node_of, kept_before, states_of}
use Rattle.optra_graph.specs.Places.{place_of, places_of, state_of}
use Rattle.optra_graph.specs.Settings.{IsSetting}
use Rattle.optra_graph.specs.Steps.{LeadsTo}
use Rattle.optra_graph.specs.Timed.{Timed, no_leg}
use Rattle.optra_graph.proofs.FlagLemmas.{set_here, set_cases, none_set}
use Rattle.optra_graph.proofs.NodeLemmas.{count_states, node_is, node_state, node_place}
use Rattle.optra_graph.proofs.PlaceLemmas.{place_below, state_back}

module _ (net : Net) (path : Path) (layout : Layout) (setting : IsSetting net path layout) (flags : List Bool) (kept : IsKept net path layout flags)
    (first arcs : List Arc) (minutes : List ℕ) (legs : List Leg) (end : ℕ) (finish : end ≡ layout.first + layout.minutes)
    (starts : Starts path layout flags end first minutes) (made : Emits net path layout flags (places_of layout) first arcs legs) where
  abbrev states : List State
  states = states_of layout (places_of layout) flags

  abbrev timed : List Bool → Timed
  timed ends = record { dag = record { arcs = arcs; ends = ends }; minutes = minutes; legs = legs }

  begin : length first ≡ length minutes
  begin = ap length starts.made ∙ length-map minutes (start_arc path layout flags)

  count : length states ≡ kept_before flags (places_of layout)
  count = count_states layout flags (places_of layout) kept.len

  -- start arcs
  start_at : (k : ℕ) → k < length minutes → get_or arcs k no_arc ≡ start_arc path layout flags (get_or minutes k 0)
  start_at k l =
      let n = begin in
      made.starts k (omega arith) ∙ ap (λ (xs : List Arc). get_or xs k no_arc) starts.made ∙ get_or-map (start_arc path layout flags) minutes k 0 no_arc l

  start_to : (k : ℕ) → k < length minutes → IsStateNode states (get_or arcs k no_arc).to × (state_at states (get_or arcs k no_arc).to ≡ start_state path (get_or minutes k 0))
  start_to k l =
      let e = ap (λ (a : Arc). a.to) (start_at k l) in
      let w = (starts.sound k l).0 in
      let b = place_below layout (start_state path (get_or minutes k 0)) w.timely.placed in
      let p = place_of layout (start_state path (get_or minutes k 0)) in
      let n = node_is layout flags (places_of layout) kept.len p b w.kept in
      let s = node_state layout flags (places_of layout) kept.len p b w.kept in
      (subst (IsStateNode states) (sym e) n, ap (state_at states) e ∙ s ∙ state_back layout (start_state path (get_or minutes k 0)) w.timely.placed)

  start_only : (k : ℕ) → k < length arcs → (get_or arcs k no_arc).from ≡ 0 → k < length minutes
  start_only k l e = by (cases_lt k (length first))
    where
      by : (k < length first) ⊎ (length first ≤ k) → k < length minutes
      by (inl m) = let n = begin in omega arith
      by (inr m) = let w = made.sound k m l in let f = ap (λ (a : Arc). a.from) w.4.0 in absurd (omega arith)

  start_all : (m : ℕ) → IsFromTo path.depart.from path.depart.to m → (ls : List Leg) → Runs net path (start_state path m) ls → (k : ℕ) × (k < length minutes) × (get_or minutes k 0 ≡ m)
  start_all m within ls r =
      let w = kept.starts m ls within r in
      let late = w.0.placed.late in
      starts.whole m (omega arith) (record { within = within; timely = w.0; kept = w.1 })

  -- arcs of legs
  leg_here : (k : ℕ) → length minutes ≤ k → k < length arcs → (p : ℕ) × (step : Step) × IsKeptStep net path layout flags p step
      × ((get_or arcs k no_arc).from ≡ node_of flags p) × ((get_or arcs k no_arc).to ≡ node_of flags step.to) × (get_or legs (k - length minutes) no_leg ≡ step.leg)
  leg_here k l m =
      let n = begin in
      let w = made.sound k (omega arith) m in
      (w.0, w.1, w.3, ap (λ (a : Arc). a.from) w.4.0, ap (λ (a : Arc). a.to) w.4.0, ap (λ (i : ℕ). get_or legs (k - i) no_leg) (sym n) ∙ w.4.1)

  leg_there : (p : ℕ) (step : Step) → IsKeptStep net path layout flags p step
      → (k : ℕ) × (length minutes ≤ k) × (k < length arcs) × ((get_or arcs k no_arc).from ≡ node_of flags p) × ((get_or arcs k no_arc).to ≡ node_of flags step.to) × (get_or legs (k - length minutes) no_leg ≡ step.leg)
  leg_there p step is =
      let n = begin in
      let w = made.whole p step is.within is in
      (w.0, omega (arith, w.1), w.2, ap (λ (a : Arc). a.from) w.3.0, ap (λ (a : Arc). a.to) w.3.0, ap (λ (i : ℕ). get_or legs (w.0 - i) no_leg) (sym n) ∙ w.3.1)

  at_node : (p : ℕ) → p < places_of layout → IsSet flags p → state_at states (node_of flags p) ≡ state_of layout p
  at_node p l s = node_state layout flags (places_of layout) kept.len p l s

  leg_move : (k : ℕ) → length minutes ≤ k → k < length arcs → IsMove net path (state_at states (get_or arcs k no_arc).from) (get_or legs (k - length minutes) no_leg)
  leg_move k l m =
      let w = leg_here k l m in
      subst (λ (n : ℕ). IsMove net path (state_at states n) (get_or legs (k - length minutes) no_leg)) (sym w.3)
      (subst (λ (s : State). IsMove net path s (get_or legs (k - length minutes) no_leg)) (sym (at_node w.0 w.2.within w.2.from))
      (subst (λ (leg : Leg). IsMove net path (state_of layout w.0) leg) (sym w.5) w.2.is_step.move))

  leads : (p : ℕ) (leg : Leg) (to : ℕ) → IsSet flags to → LeadsTo net path layout (state_of layout p) leg to → LeadsOn net path states (state_of layout p) leg (node_of flags to)
  leads p leg to s (inl f) = let c = count in inl (f.0, ap (node_of flags) f.1 ∙ (omega arith))
  leads p leg to s (inr f) =
      let b = place_below layout f.0 f.2.placed in
      let set : IsSet flags (place_of layout f.0) = subst (IsSet flags) f.3 s in
      let n = node_is layout flags (places_of layout) kept.len (place_of layout f.0) b set in
      let at : state_at states (node_of flags (place_of layout f.0)) ≡ f.0 = at_node (place_of layout f.0) b set ∙ state_back layout f.0 f.2.placed in
      let e = ap (node_of flags) (sym f.3) in
      inr (subst (IsStateNode states) e n, subst (λ (n : ℕ). IsAfter net path (state_of layout p) leg (state_at states n)) e (subst (IsAfter net path (state_of layout p) leg) (sym at) f.1))

  leg_to : (k : ℕ) → length minutes ≤ k → k < length arcs → LeadsOn net path states (state_at states (get_or arcs k no_arc).from) (get_or legs (k - length minutes) no_leg) (get_or arcs k no_arc).to
  leg_to k l m =
      let w = leg_here k l m in
      subst (λ (n : ℕ). LeadsOn net path states (state_at states n) (get_or legs (k - length minutes) no_leg) (get_or arcs k no_arc).to) (sym w.3)
      (subst (λ (s : State). LeadsOn net path states s (get_or legs (k - length minutes) no_leg) (get_or arcs k no_arc).to) (sym (at_node w.0 w.2.within w.2.from))
      (subst (λ (leg : Leg). LeadsOn net path states (state_of layout w.0) leg (get_or arcs k no_arc).to) (sym w.5)
      (subst (LeadsOn net path states (state_of layout w.0) w.1.leg) (sym w.4) (leads w.0 w.1.leg w.1.to w.2.to w.2.is_step.leads))))

  leg_order : (j k : ℕ) → j < k → k < length arcs → length minutes ≤ j → (get_or arcs j no_arc).from ≡ (get_or arcs k no_arc).from → leg_cmp (get_or legs (j - length minutes) no_leg) (get_or legs (k - length minutes) no_leg) ≡ Less
  leg_order j k l m s e =
      let n = begin in
      (λ i. leg_cmp (get_or legs (j - sym n i) no_leg) (get_or legs (k - sym n i) no_leg)) ∙ made.ordered j k l m (omega arith) e

  leg_all : (n : ℕ) → IsStateNode states n → (leg : Leg) (rest : List Leg) → Runs net path (state_at states n) (leg ∷ rest)
      → (k : ℕ) × (length minutes ≤ k) × (k < length arcs) × ((get_or arcs k no_arc).from ≡ n) × (get_or legs (k - length minutes) no_leg ≡ leg)
  leg_all n s leg rest r =
      let p = node_place layout flags (places_of layout) kept.len n s in
      let here : Runs net path (state_of layout p.0) (leg ∷ rest) = subst (λ (x : State). Runs net path x (leg ∷ rest)) (ap (state_at states) (sym p.3) ∙ at_node p.0 p.1 p.2) r in
      let w = kept.runs p.0 leg rest p.1 p.2 here in
      let k = leg_there p.0 (record { leg = leg; to = w.0 }) (record { within = p.1; from = p.2; is_step = w.1; to = w.2 }) in
      (k.0, k.1, k.2, k.3 ∙ p.3, k.5)

  comes : (n : ℕ) → IsStateNode states n → (k : ℕ) × (k < length arcs) × ((get_or arcs k no_arc).to ≡ n)
  comes n s = by (kept.from p.0 p.2)
    where
      p : (p : ℕ) × (p < places_of layout) × IsSet flags p × (node_of flags p ≡ n)
      p = node_place layout flags (places_of layout) kept.len n s

      by : IsStartPlace path layout p.0 ⊎ IsSteppedTo net path layout flags p.0 → (k : ℕ) × (k < length arcs) × ((get_or arcs k no_arc).to ≡ n)
      by (inl (m, within, timely, e)) =
          let late = timely.placed.late in
          let w = starts.whole m (omega arith) (record { within = within; timely = timely; kept = subst (IsSet flags) e p.2 }) in
          let b = begin in
          let c = made.count in
          let to = ap (λ (a : Arc). a.to) (start_at w.0 w.1) in
          (w.0, omega (arith, w.1), to ∙ ap (λ (i : ℕ). node_of flags (place_of layout (start_state path i))) w.2 ∙ ap (node_of flags) (sym e) ∙ p.3)
      by (inr (q, step, b, l, set, is, e)) =
          let k = leg_there q step (record { within = b; from = set; is_step = is; to = subst (IsSet flags) (sym e) p.2 }) in
          (k.0, k.2, k.4 ∙ ap (node_of flags) e ∙ p.3)

  goes : (n : ℕ) → IsStateNode states n → (k : ℕ) × (k < length arcs) × ((get_or arcs k no_arc).from ≡ n)
  goes n s =
      let p = node_place layout flags (places_of layout) kept.len n s in
      let w = kept.goes_on p.0 p.1 p.2 in
      let k = leg_there p.0 w.0 (record { within = p.1; from = p.2; is_step = w.1; to = w.2 }) in
      (k.0, k.2, k.3 ∙ p.3)

  pub timed_is : (ends : List Bool) → ends ≡ set (replicate (node_of flags (places_of layout) + 1) false) (node_of flags (places_of layout)) true
      → IsForward (record { arcs = arcs; ends = ends }) → IsTimed net path (timed ends) states
  timed_is ends e forward = record {
    forward = forward;
    nodes = let c = count in let n = ap length e in omega (arith, n, c, wide);
    ends = λ n h. last n (set_cases (replicate (node_of flags (places_of layout) + 1) false) (node_of flags (places_of layout)) n (omega (arith, room)) (subst (λ (xs : List Bool). IsSet xs n) e h));
    end = let c = count in let at : length states + 1 ≡ node_of flags (places_of layout) = omega arith in
        subst (λ (n : ℕ). IsSet ends n) (sym at) (subst (λ (xs : List Bool). IsSet xs (node_of flags (places_of layout))) (sym e) (set_here (replicate (node_of flags (places_of layout) + 1) false) (node_of flags (places_of layout)) true (omega (arith, room))));
    count = let c = made.count in let b = begin in omega arith;
    start_from = λ k l. ap (λ (a : Arc). a.from) (start_at k l);
    start_only = start_only;
    start_to = start_to;
    start_within = λ k l. (starts.sound k l).0.within;
    start_order = starts.rising;
    start_all = start_all;
    leg_from = λ k l m. let w = leg_here k l m in subst (IsStateNode states) (sym w.3) (node_is layout flags (places_of layout) kept.len w.0 w.2.within w.2.from);
    leg_move = leg_move;
    leg_to = leg_to;
    leg_order = leg_order;
    leg_all = leg_all;
    comes = comes;
    goes = goes;
  }
    where
      room : length (replicate (node_of flags (places_of layout) + 1) false) ≡ node_of flags (places_of layout) + 1
      room = length-replicate (node_of flags (places_of layout) + 1) false

      wide : length (set (replicate (node_of flags (places_of layout) + 1) false) (node_of flags (places_of layout)) true) ≡ node_of flags (places_of layout) + 1
      wide = length-set (replicate (node_of flags (places_of layout) + 1) false) (node_of flags (places_of layout)) true ∙ room

      last : (n : ℕ) → IsSet (replicate (node_of flags (places_of layout) + 1) false) n ⊎ (n ≡ node_of flags (places_of layout)) → n ≡ length states + 1
      last n (inl h) = absurd (none_set (node_of flags (places_of layout) + 1) n h)
      last n (inr h) = let c = count in omega arith
