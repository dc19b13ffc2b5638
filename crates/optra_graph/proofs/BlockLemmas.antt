-- What the arcs are when those of one more state are added.
use Rattle.std.proofs.Common.{◌≡◌, ℕ, ◌+◌, ◌-◌, ◌*◌, ◌≤◌, ◌<◌, ◌⊎◌, inl, inr, Bool, false, List, [], ◌++◌, length, map, filter, get_or, refl, sym, ap, ◌∙◌, subst, arith, Ordering, Less, Equal, nat_cmp, length-append, true≢false}
use Rattle.std.specs.Ordering.{ordering_then}
use Rattle.std.proofs.lemmas.List.{get_or-map, get_or-append_right, get_or_append_left, length-map}
use Rattle.std.proofs.lemmas.List.Elements.{All-filter, filter_passes}
use Rattle.std.proofs.lemmas.List.Kept.{AllPairs-filter}
use Rattle.std.proofs.lemmas.Bool.{cases_lt}
use Rattle.optra_dag.specs.declared.Arc.{Arc}
use Rattle.optra_dag.specs.Paths.{no_arc}
use Rattle.optra_network.specs.Net.{Net}
use Rattle.optra_bid.specs.Specs.{Path}
use Rattle.optra_walk.specs.declared.Action.{Action}
use Rattle.optra_walk.specs.declared.Action.TheVariants.{Pass, Halt, Wait, Finish}
use Rattle.optra_walk.specs.declared.Leg.{Leg}
use Rattle.optra_walk.specs.Legs.{dwell_of}
use Rattle.optra_walk.specs.Orders.{action_rank, leg_cmp, action_cmp}
use Rattle.optra_graph.specs.declared.states.Layout.{Layout}
use Rattle.optra_graph.specs.declared.stepping.Step.{Step}
use Rattle.optra_graph.specs.Arcs.{arc_of, is_kept, leg_of_step, IsKeptStep, IsArcOf, Emits}
use Rattle.optra_graph.specs.Flags.{is_set, IsSet}
use Rattle.optra_graph.specs.Nodes.{node_of}
use Rattle.optra_graph.specs.Places.{places_of, state_of}
use Rattle.optra_graph.specs.Settings.{IsSetting}
use Rattle.optra_graph.specs.Steps.{IsStep, AreSteps, key_of, no_step}
use Rattle.optra_graph.specs.Timed.{no_leg}
use Rattle.optra_graph.proofs.ColumnLemmas.{columns_back}
use Rattle.optra_graph.proofs.NodeLemmas.{kept_less}
use Rattle.optra_graph.proofs.OrderLemmas.{nat_less, nat_same}
use Rattle.optra_graph.proofs.PlaceLemmas.{placed_at}
use Rattle.optra_graph.proofs.StepLemmas.{dwell_small}
use Rattle.optra_graph.proofs.FlagLemmas.{default_same}
use Rattle.optra_graph.proofs.WayLemmas.{contains_filter}

-- legs of one state ascend as their keys do
action_less : (x y : Action) → action_rank x * 256 + dwell_of x < action_rank y * 256 + dwell_of y → dwell_of x < 256 → dwell_of y < 256 → action_cmp x y ≡ Less
action_less Pass Pass l a b = absurd (omega arith)
action_less Pass (Halt e) l a b = refl
action_less Pass (Wait e) l a b = refl
action_less Pass Finish l a b = refl
action_less (Halt d) Pass l a b = absurd (omega arith)
action_less (Halt d) (Halt e) l a b = nat_less d e (omega arith)
action_less (Halt d) (Wait e) l a b = refl
action_less (Halt d) Finish l a b = refl
action_less (Wait d) Pass l a b = absurd (omega arith)
action_less (Wait d) (Halt e) l a b = absurd (omega arith)
action_less (Wait d) (Wait e) l a b = nat_less d e (omega arith)
action_less (Wait d) Finish l a b = refl
action_less Finish Pass l a b = absurd (omega arith)
action_less Finish (Halt e) l a b = absurd (omega arith)
action_less Finish (Wait e) l a b = absurd (omega arith)
action_less Finish Finish l a b = absurd (omega arith)

rank_few : (a : Action) → action_rank a < 4
rank_few Pass = omega arith
rank_few (Halt d) = omega arith
rank_few (Wait d) = omega arith
rank_few Finish = omega arith

pub leg_less : (a b : Leg) → dwell_of a.action < 256 → dwell_of b.action < 256 → key_of a < key_of b → leg_cmp a b ≡ Less
leg_less a b h w l = by (cases_lt a.track.0 b.track.0)
  where
    few : action_rank b.action < 4
    few = rank_few b.action

    by : (a.track.0 < b.track.0) ⊎ (b.track.0 ≤ a.track.0) → leg_cmp a b ≡ Less
    by (inl m) = ap (λ (o : Ordering). ordering_then o (action_cmp a.action b.action)) (nat_less a.track.0 b.track.0 m)
    by (inr m) =
        let same : a.track.0 ≡ b.track.0 = omega (arith, few, m) in
        ap (λ (o : Ordering). ordering_then o (action_cmp a.action b.action)) (subst (λ n. nat_cmp a.track.0 n ≡ Equal) same (nat_same a.track.0))
        ∙ action_less a.action b.action (omega (arith, same)) h w

-- arcs and legs side by side, the legs after so many start arcs
abbrev pub Ordered : ℕ → List Arc → List Leg → Type 0
Ordered starts arcs legs = (j k : ℕ) → j < k → k < length arcs → starts ≤ j → (get_or arcs j no_arc).from ≡ (get_or arcs k no_arc).from
    → leg_cmp (get_or legs (j - starts) no_leg) (get_or legs (k - starts) no_leg) ≡ Less

-- the steps of one state ascend
abbrev pub Climb : List Step → Type 0
Climb steps = (j k : ℕ) (d : Step) → j < k → k < length steps → leg_cmp (get_or steps j d).leg (get_or steps k d).leg ≡ Less

pub order_step : (flags : List Bool) (starts from : ℕ) (arcs : List Arc) (legs : List Leg) (steps : List Step) → length arcs ≡ starts + length legs
    → ((k : ℕ) → k < length arcs → (get_or arcs k no_arc).from < from) → Climb steps
    → Ordered starts arcs legs → Ordered starts (arcs ++ map (arc_of flags from) steps) (legs ++ map leg_of_step steps)
order_step flags starts from arcs legs steps long before up old j k l m s same = by (cases_lt k (length arcs)) (cases_lt j (length arcs))
  where
    below : (i : ℕ) → length arcs ≤ i → i < length (arcs ++ map (arc_of flags from) steps) → i - length arcs < length steps
    below i l m = let n = simp (length-append, length-map) at m in omega arith

    arc_new : (i : ℕ) → length arcs ≤ i → i < length (arcs ++ map (arc_of flags from) steps) → (get_or (arcs ++ map (arc_of flags from) steps) i no_arc).from ≡ from
    arc_new i l m = ap (λ (a : Arc). a.from) (get_or-append_right arcs (map (arc_of flags from) steps) (length arcs) i no_arc refl l
        ∙ get_or-map (arc_of flags from) steps (i - length arcs) no_step no_arc (below i l m))

    leg_new : (i : ℕ) → length arcs ≤ i → i < length (arcs ++ map (arc_of flags from) steps) → get_or (legs ++ map leg_of_step steps) (i - starts) no_leg ≡ (get_or steps (i - length arcs) no_step).leg
    leg_new i l m =
        let e : (i - starts) - length legs ≡ i - length arcs = omega arith in
        get_or-append_right legs (map leg_of_step steps) (length legs) (i - starts) no_leg refl (omega arith)
        ∙ ap (λ n. get_or (map leg_of_step steps) n no_leg) e
        ∙ get_or-map leg_of_step steps (i - length arcs) no_step no_leg (below i l m)

    arc_old : (i : ℕ) → i < length arcs → get_or (arcs ++ map (arc_of flags from) steps) i no_arc ≡ get_or arcs i no_arc
    arc_old i l = get_or_append_left arcs (map (arc_of flags from) steps) no_arc i l

    leg_old : (i : ℕ) → i < length arcs → starts ≤ i → get_or (legs ++ map leg_of_step steps) (i - starts) no_leg ≡ get_or legs (i - starts) no_leg
    leg_old i l s = get_or_append_left legs (map leg_of_step steps) no_leg (i - starts) (omega arith)

    by : (k < length arcs) ⊎ (length arcs ≤ k) → (j < length arcs) ⊎ (length arcs ≤ j)
        → leg_cmp (get_or (legs ++ map leg_of_step steps) (j - starts) no_leg) (get_or (legs ++ map leg_of_step steps) (k - starts) no_leg) ≡ Less
    by (inl a) (inl b) =
        (λ i. leg_cmp (leg_old j b s i) (leg_old k a (omega arith) i))
        ∙ old j k l a s (sym (ap (λ (a : Arc). a.from) (arc_old j b)) ∙ same ∙ ap (λ (a : Arc). a.from) (arc_old k a))
    by (inl a) (inr b) = absurd (omega arith)
    by (inr a) (inl b) =
        let x = before j b in
        let y : (get_or arcs j no_arc).from ≡ from = sym (ap (λ (a : Arc). a.from) (arc_old j b)) ∙ same ∙ arc_new k a m in
        absurd (omega arith)
    by (inr a) (inr b) =
        (λ i. leg_cmp (leg_new j b (omega arith) i) (leg_new k a m i))
        ∙ up (j - length arcs) (k - length arcs) no_step (omega arith) (below k a m)

module _ (net : Net) (path : Path) (layout : Layout) (setting : IsSetting net path layout) (flags : List Bool) (first : List Arc) where
  abbrev Made : ℕ → List Arc → List Leg → Type 0
  Made before arcs legs = Emits net path layout flags before first arcs legs

  abbrev Kept : ℕ → Step → Type 0
  Kept place step = IsKeptStep net path layout flags place step

  pub emits_start : Made 0 first []
  emits_start = record {
    starts = λ k l. refl;
    count = omega arith;
    sound = λ k l m. absurd (omega arith);
    whole = λ place step l w. absurd (omega arith);
    ordered = λ j k l m s e. absurd (omega arith);
  }

  -- places that are not kept have no arcs
  pub emits_to : (place to : ℕ) (arcs : List Arc) (legs : List Leg) → place ≤ to → ((p : ℕ) → place ≤ p → p < to → IsSet flags p → ⊥) → Made place arcs legs → Made to arcs legs
  emits_to place to arcs legs up none h = record {
    starts = h.starts;
    count = h.count;
    sound = λ k l m. let w = h.sound k l m in (w.0, w.1, omega (arith, w.2, up), w.3, w.4);
    whole = λ p step b w. by p step b w (cases_lt p place);
    ordered = h.ordered;
  }
    where
      by : (p : ℕ) (step : Step) → p < to → Kept p step → (p < place) ⊎ (place ≤ p)
          → (k : ℕ) × (length first ≤ k) × (k < length arcs) × IsArcOf flags (length first) arcs legs k p step
      by p step b w (inl m) = h.whole p step m w
      by p step b w (inr m) = absurd (none p m b w.from)

  pub emits_skip : (place : ℕ) (arcs : List Arc) (legs : List Leg) → is_set flags place ≡ false → Made place arcs legs → Made (place + 1) arcs legs
  emits_skip place arcs legs e h = emits_to place (place + 1) arcs legs (omega arith) (λ p l m s. let n : p ≡ place = omega arith in true≢false (sym s ∙ ap (is_set flags) n ∙ e)) h

  -- the arcs that are there leave earlier nodes
  pub emits_before : ((k : ℕ) → k < length first → (get_or first k no_arc).from ≡ 0) → (place : ℕ) (arcs : List Arc) (legs : List Leg) → Made place arcs legs
      → (k : ℕ) → k < length arcs → (get_or arcs k no_arc).from < node_of flags place
  emits_before none place arcs legs h k l = by (cases_lt k (length first))
    where
      by : (k < length first) ⊎ (length first ≤ k) → (get_or arcs k no_arc).from < node_of flags place
      by (inl m) = let e = ap (λ (a : Arc). a.from) (h.starts k m) in let z = none k m in omega arith
      by (inr m) =
          let w = h.sound k m l in
          let e = ap (λ (a : Arc). a.from) w.4.0 in
          let u = kept_less flags w.0 place w.2 w.3.from in
          omega arith

  module _ (place : ℕ) (within : place < places_of layout) (set : IsSet flags place) (steps : List Step) (all : AreSteps net path layout (state_of layout place) steps) where
    abbrev ons : List Step
    ons = filter (is_kept flags) steps

    abbrev more_arcs : List Arc → List Arc
    more_arcs arcs = arcs ++ map (arc_of flags (node_of flags place)) ons

    abbrev more_legs : List Leg → List Leg
    more_legs legs = legs ++ map leg_of_step ons

    -- a step that is added is a kept one
    on_kept : (i : ℕ) → i < length ons → Kept place (get_or ons i no_step)
    on_kept i l = record {
      within = within;
      from = set;
      is_step = All-filter (is_kept flags) (IsStep net path layout (state_of layout place)) steps all.sound i no_step l;
      to = filter_passes (is_kept flags) steps i no_step l;
    }

    climbs : Climb ons
    climbs j k d l m =
        let s = AllPairs-filter (λ (a b : Step). key_of a.leg < key_of b.leg) (is_kept flags) steps all.rising j k d l m in
        let a = All-filter (is_kept flags) (IsStep net path layout (state_of layout place)) steps all.sound j d (omega arith) in
        let b = All-filter (is_kept flags) (IsStep net path layout (state_of layout place)) steps all.sound k d m in
        let p = placed_at layout (columns_back net path layout setting) place within in
        leg_less (get_or ons j d).leg (get_or ons k d).leg (dwell_small net path layout setting (state_of layout place) p (get_or ons j d) a) (dwell_small net path layout setting (state_of layout place) p (get_or ons k d) b) s

    module _ (arcs : List Arc) (legs : List Leg) (h : Made place arcs legs) (none : (k : ℕ) → k < length first → (get_or first k no_arc).from ≡ 0) where
      old_arc : (k : ℕ) → k < length arcs → get_or (more_arcs arcs) k no_arc ≡ get_or arcs k no_arc
      old_arc k l = get_or_append_left arcs (map (arc_of flags (node_of flags place)) ons) no_arc k l

      old_leg : (k : ℕ) → length first ≤ k → k < length arcs → get_or (more_legs legs) (k - length first) no_leg ≡ get_or legs (k - length first) no_leg
      old_leg k l m = let c = h.count in get_or_append_left legs (map leg_of_step ons) no_leg (k - length first) (omega arith)

      short : (k : ℕ) → length arcs ≤ k → k < length (more_arcs arcs) → k - length arcs < length ons
      short k l m = let n = simp (length-append, length-map) at m in omega arith

      new_arc : (i : ℕ) → i < length ons → get_or (more_arcs arcs) (length arcs + i) no_arc ≡ arc_of flags (node_of flags place) (get_or ons i no_step)
      new_arc i l =
          let e : length arcs + i - length arcs ≡ i = omega arith in
          get_or-append_right arcs (map (arc_of flags (node_of flags place)) ons) (length arcs) (length arcs + i) no_arc refl (omega arith)
          ∙ ap (λ n. get_or (map (arc_of flags (node_of flags place)) ons) n no_arc) e
          ∙ get_or-map (arc_of flags (node_of flags place)) ons i no_step no_arc l

      new_leg : (i : ℕ) → i < length ons → get_or (more_legs legs) (length arcs + i - length first) no_leg ≡ (get_or ons i no_step).leg
      new_leg i l =
          let c = h.count in
          let e : length arcs + i - length first - length legs ≡ i = omega arith in
          get_or-append_right legs (map leg_of_step ons) (length legs) (length arcs + i - length first) no_leg refl (omega arith)
          ∙ ap (λ n. get_or (map leg_of_step ons) n no_leg) e
          ∙ get_or-map leg_of_step ons i no_step no_leg l

      pub emits_more : Made (place + 1) (more_arcs arcs) (more_legs legs)
      emits_more = record {
        starts = λ k l. let c = h.count in old_arc k (omega arith) ∙ h.starts k l;
        count = let c = h.count in omega (arith, length-append arcs (map (arc_of flags (node_of flags place)) ons), length-append legs (map leg_of_step ons), length-map ons (arc_of flags (node_of flags place)), length-map ons leg_of_step);
        sound = λ k l m. sound k l m (cases_lt k (length arcs));
        whole = λ p step l w. whole p step l w (cases_lt p place);
        ordered = order_step flags (length first) (node_of flags place) arcs legs ons h.count (emits_before none place arcs legs h) climbs h.ordered;
      }
        where
          sound : (k : ℕ) → length first ≤ k → k < length (more_arcs arcs) → (k < length arcs) ⊎ (length arcs ≤ k)
              → (p : ℕ) × (step : Step) × (p < place + 1) × Kept p step × IsArcOf flags (length first) (more_arcs arcs) (more_legs legs) k p step
          sound k l m (inl b) = let w = h.sound k l b in (w.0, w.1, omega (arith, w.2), w.3, (old_arc k b ∙ w.4.0, old_leg k l b ∙ w.4.1))
          sound k l m (inr b) =
              let i = short k b m in
              let e : length arcs + (k - length arcs) ≡ k = omega arith in (
                place,
                get_or ons (k - length arcs) no_step,
                omega arith,
                on_kept (k - length arcs) i,
                (ap (λ n. get_or (more_arcs arcs) n no_arc) (sym e) ∙ new_arc (k - length arcs) i, ap (λ n. get_or (more_legs legs) (n - length first) no_leg) (sym e) ∙ new_leg (k - length arcs) i),
              )

          whole : (p : ℕ) (step : Step) → p < place + 1 → Kept p step → (p < place) ⊎ (place ≤ p)
              → (k : ℕ) × (length first ≤ k) × (k < length (more_arcs arcs)) × IsArcOf flags (length first) (more_arcs arcs) (more_legs legs) k p step
          whole p step l w (inl b) =
              let v = h.whole p step b w in
              (v.0, v.1, omega (arith, v.2, length-append arcs (map (arc_of flags (node_of flags place)) ons)), (old_arc v.0 v.2 ∙ v.3.0, old_leg v.0 v.1 v.2 ∙ v.3.1))
          whole p step l w (inr b) =
              let s : p ≡ place = omega arith in
              let c = all.whole step (subst (λ q. IsStep net path layout (state_of layout q) step) s w.is_step) in
              let f = contains_filter (is_kept flags) steps step c.0 c.1 c.2 w.to in
              let at : get_or ons f.0 no_step ≡ step = default_same ons f.0 no_step step f.1 ∙ f.2 in
              let n = h.count in (
                length arcs + f.0,
                omega arith,
                omega (arith, f.1, length-append arcs (map (arc_of flags (node_of flags place)) ons), length-map ons (arc_of flags (node_of flags place))),
                (new_arc f.0 f.1 ∙ ap (λ (x : Step). arc_of flags (node_of flags place) x) at ∙ ap (λ (q : ℕ). arc_of flags (node_of flags q) step) (sym s), new_leg f.0 f.1 ∙ ap (λ (x : Step). x.leg) at),
              )
