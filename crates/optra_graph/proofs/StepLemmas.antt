-- The steps of a state by one way: which there are, and that a list that grows by the next one stays exact.
use Rattle.std.proofs.Common.{◌≡◌, ℕ, ◌+◌, ◌-◌, ◌*◌, ◌≤◌, ◌<◌, ◌⊎◌, inl, inr, true, false, List, [], ◌∷◌, ◌++◌, length, Option, None, Some, IsSomeAnd, slice_get, refl, sym, ap, ◌∙◌, subst, arith, Contains, true≢false, min}
use Rattle.std.specs.Option.{option_map}
use Rattle.std.proofs.lemmas.Bool.{cases_lt}
use Rattle.std.proofs.lemmas.List.Elements.{All-push, Contains-append_left, Contains-push}
use Rattle.std.proofs.lemmas.List.Quantifiers.{all_pairs_push}
use Rattle.std.proofs.lemmas.Option.{get_or_from_slice_get, slice_get_within}
use Rattle.optra_network.specs.Net.{Net, IsFromTo}
use Rattle.optra_network.specs.declared.TrackId.{TrackId}
use Rattle.optra_bid.specs.Specs.{Path, IsStop}
use Rattle.optra_bid.specs.declared.Stop.{Stop}
use Rattle.optra_walk.specs.declared.Action.{Action}
use Rattle.optra_walk.specs.declared.Action.TheVariants.{Pass, Halt, Wait, Finish}
use Rattle.optra_walk.specs.declared.Leg.{Leg}
use Rattle.optra_walk.specs.Legs.{next_depart_of, is_finish, dwell_of}
use Rattle.optra_walk.specs.Walks.{MeetsStop}
use Rattle.optra_walk.specs.Orders.{action_rank}
use Rattle.optra_walk.specs.declared.state.State.{State}
use Rattle.optra_graph.specs.declared.states.Layout.{Layout}
use Rattle.optra_graph.specs.declared.stepping.Step.{Step}
use Rattle.optra_graph.specs.declared.stepping.Way.{Way}
use Rattle.optra_walk.specs.Moves.{done_after, FitsAction, IsMove, IsAfter, leg_by}
use Rattle.optra_graph.specs.Places.{IsPlaced, IsTimely, deadline_of, place_of, places_of}
use Rattle.optra_graph.specs.Settings.{IsSetting}
use Rattle.optra_graph.specs.Steps.{LeadsTo, IsStep, bound_of, key_of, AreStepsBelow, IsWay}
use Rattle.optra_graph.proofs.RunLemmas.{not_finish}
use Rattle.optra_graph.proofs.ColumnLemmas.{column_there, deadline_least}
use Rattle.optra_graph.proofs.HorizonLemmas.{after_later}
use Rattle.optra_graph.proofs.PlaceLemmas.{place_below, place_later}

pub some_same : {A : Type 0} (o : Option A) (a b : A) → o ≡ Some a → o ≡ Some b → a ≡ b
some_same o a b e f = cc

pub after_once : (net : Net) (path : Path) (s : State) (leg : Leg) (a b : State) → IsAfter net path s leg a → IsAfter net path s leg b → a ≡ b
after_once net path s leg a b h w =
    let p = some_same _ a.station b.station h.place w.place in
    let m = some_same _ a.minute b.minute h.time w.time in
    let t : a.halted ≡ b.halted = h.mode ∙ sym w.mode in
    let d : a.done ≡ b.done = h.done ∙ sym w.done in
    λ i. record { station = p i; minute = m i; halted = t i; done = d i }

rank_few : (a : Action) → action_rank a < 4
rank_few Pass = omega arith
rank_few (Halt d) = omega arith
rank_few (Wait d) = omega arith
rank_few Finish = omega arith

pub rank_pass : (a : Action) → action_rank a ≡ 0 → a ≡ Pass
rank_pass Pass e = refl
rank_pass (Halt d) e = absurd (omega arith)
rank_pass (Wait d) e = absurd (omega arith)
rank_pass Finish e = absurd (omega arith)

pub rank_halt : (a : Action) → action_rank a ≡ 1 → a ≡ Halt (dwell_of a)
rank_halt Pass e = absurd (omega arith)
rank_halt (Halt d) e = refl
rank_halt (Wait d) e = absurd (omega arith)
rank_halt Finish e = absurd (omega arith)

pub rank_wait : (a : Action) → action_rank a ≡ 2 → a ≡ Wait (dwell_of a)
rank_wait Pass e = absurd (omega arith)
rank_wait (Halt d) e = absurd (omega arith)
rank_wait (Wait d) e = refl
rank_wait Finish e = absurd (omega arith)

pub rank_finish : (a : Action) → action_rank a ≡ 3 → a ≡ Finish
rank_finish Pass e = absurd (omega arith)
rank_finish (Halt d) e = absurd (omega arith)
rank_finish (Wait d) e = absurd (omega arith)
rank_finish Finish e = refl

pub track_same : (a b : TrackId) → a.0 ≡ b.0 → a ≡ b
track_same a b e = λ i. record { 0 = e i }

within_some : (o : Option ℕ) (n from to : ℕ) → o ≡ Some n → from ≤ n → n ≤ to → IsSomeAnd o (IsFromTo from to)
within_some o n from to e l u = subst (λ v. IsSomeAnd v (IsFromTo from to)) (sym e) (l, u)

within_of : (o : Option ℕ) (n from to : ℕ) → o ≡ Some n → IsSomeAnd o (IsFromTo from to) → IsFromTo from to n
within_of o n from to e h = subst (λ v. IsSomeAnd v (IsFromTo from to)) e h

-- what is known of a stop that is there
pub stop_of : (P : Stop → Type 0) (o : Option Stop) (stop : Stop) → o ≡ Some stop → IsSomeAnd o P → P stop
stop_of P o stop e h = subst (λ v. IsSomeAnd v P) e h

-- and of one that some leg meets
pub stop_there : (P : Stop → Type 0) (o : Option Stop) → IsSomeAnd o P → (stop : Stop) × (o ≡ Some stop) × P stop
stop_there P None h = absurd h
stop_there P (Some stop) h = (stop, refl, h)

module _ (net : Net) (path : Path) (layout : Layout) (setting : IsSetting net path layout) (s : State) (placed : IsPlaced layout s) where
  abbrev Is : Step → Type 0
  Is step = IsStep net path layout s step

  -- a leg leads to one place only
  leads_once : (leg : Leg) (a b : ℕ) → LeadsTo net path layout s leg a → LeadsTo net path layout s leg b → a ≡ b
  leads_once leg a b (inl f) (inl g) = f.1 ∙ sym g.1
  leads_once leg a b (inl f) (inr g) = absurd (true≢false (sym (ap is_finish f.0) ∙ not_finish net path leg _ g.1.time leg.action refl))
  leads_once leg a b (inr f) (inl g) = absurd (true≢false (sym (ap is_finish g.0) ∙ not_finish net path leg _ f.1.time leg.action refl))
  leads_once leg a b (inr f) (inr g) = f.3 ∙ ap (place_of layout) (after_once net path s leg f.0 g.0 f.1 g.1) ∙ sym g.3

  pub step_once : (a b : Step) → Is a → Is b → a.leg ≡ b.leg → a ≡ b
  step_once a b h w e =
      let to = leads_once b.leg a.to b.to (subst (λ leg. LeadsTo net path layout s leg a.to) e h.leads) w.leads in
      λ i. record { leg = e i; to = to i }

  -- a step leads to a later place, which is at most the end
  pub step_forward : (step : Step) → Is step → (place_of layout s < step.to) × (step.to ≤ places_of layout)
  step_forward step h = by h.leads
    where
      by : LeadsTo net path layout s step.leg step.to → (place_of layout s < step.to) × (step.to ≤ places_of layout)
      by (inl f) = let p = place_below layout s placed in let e = f.1 in (omega arith, omega arith)
      by (inr f) =
          let l = after_later net path setting.proper s f.0 step.leg h.move f.1 in
          let p = place_later layout s f.0 placed f.2.placed l in
          let q = place_below layout f.0 f.2.placed in
          let e = f.3 in
          (omega arith, omega arith)

  -- dwells are below 256
  dwell_few : (leg : Leg) (a : Action) → FitsAction net path s.done leg a → leg.action ≡ a → dwell_of a < 256
  dwell_few leg Pass h e = omega arith
  dwell_few leg (Halt d) h e =
      let at = stop_there (MeetsStop net path.kind leg) (slice_get path.stops s.done) h in
      let dwell : d ≤ at.0.max_dwell = subst (λ a. dwell_of a ≤ at.0.max_dwell) e at.2.dwell.1 in
      let is : IsStop at.0 = subst IsStop (get_or_from_slice_get path.stops s.done at.0 at.0 at.1) (setting.stops s.done at.0 (slice_get_within path.stops s.done at.0 at.1)) in
      let most = is.dwell_max in
      omega arith
  dwell_few leg (Wait d) h e = let m = setting.wait_max in let u = h.1 in omega arith
  dwell_few leg Finish h e = omega arith

  pub dwell_small : (y : Step) → Is y → dwell_of y.leg.action < 256
  dwell_small y h = dwell_few y.leg y.leg.action h.move.action refl

  -- a key gives the track and the action
  pub key_parts : (y : Step) → Is y → (t r : ℕ) → r < 4 → bound_of t r ≤ key_of y.leg → key_of y.leg < bound_of t (r + 1) → (y.leg.track.0 ≡ t) × (action_rank y.leg.action ≡ r)
  key_parts y h t r few l u =
      let d = dwell_few y.leg y.leg.action h.move.action refl in
      let k = rank_few y.leg.action in
      let track : y.leg.track.0 ≡ t = omega arith in
      (track, omega arith)

  -- a key below the first of a track is one of an earlier track
  pub key_track : (y : Step) → Is y → (y.leg.track.0 * 4 * 256 ≤ key_of y.leg) × (key_of y.leg < (y.leg.track.0 + 1) * 4 * 256)
  key_track y h =
      let d = dwell_few y.leg y.leg.action h.move.action refl in
      let k = rank_few y.leg.action in
      (omega arith, omega arith)

  -- ---- lists of steps

  pub none_below : AreStepsBelow net path layout s 0 []
  none_below = record { sound = λ k d l. absurd (omega arith); below = λ k d l. absurd (omega arith); rising = λ i j d l m. absurd (omega arith); whole = λ y h l. absurd (omega arith) }

  pub skip_steps : (bound more : ℕ) (steps : List Step) → bound ≤ more → AreStepsBelow net path layout s bound steps
      → ((y : Step) → Is y → bound ≤ key_of y.leg → key_of y.leg < more → ⊥) → AreStepsBelow net path layout s more steps
  skip_steps bound more steps le h none = record {
    sound = h.sound;
    below = λ k d l. let b = h.below k d l in omega arith;
    rising = h.rising;
    whole = λ y w l. by y w l (cases_lt (key_of y.leg) bound);
  }
    where
      by : (y : Step) → Is y → key_of y.leg < more → (key_of y.leg < bound) ⊎ (bound ≤ key_of y.leg) → Contains steps y
      by y w l (inl b) = h.whole y w b
      by y w l (inr b) = absurd (none y w b l)

  pub push_step : (bound : ℕ) (steps : List Step) (x : Step) → AreStepsBelow net path layout s bound steps → Is x → bound ≤ key_of x.leg
      → ((y : Step) → Is y → bound ≤ key_of y.leg → key_of y.leg ≤ key_of x.leg → y.leg ≡ x.leg) → AreStepsBelow net path layout s (key_of x.leg + 1) (steps ++ x ∷ [])
  push_step bound steps x h is le only = record {
    sound = All-push Is steps x h.sound is;
    below = All-push (λ (step : Step). key_of step.leg < key_of x.leg + 1) steps x (λ k d l. let b = h.below k d l in omega arith) (omega arith);
    rising = all_pairs_push (λ (a b : Step). key_of a.leg < key_of b.leg) steps x h.rising (λ k d l. let b = h.below k d l in omega arith);
    whole = λ y w l. by y w l (cases_lt (key_of y.leg) bound);
  }
    where
      by : (y : Step) → Is y → key_of y.leg < key_of x.leg + 1 → (key_of y.leg < bound) ⊎ (bound ≤ key_of y.leg) → Contains (steps ++ x ∷ []) y
      by y w l (inl b) = Contains-append_left steps (x ∷ []) y (h.whole y w b)
      by y w l (inr b) = subst (Contains (steps ++ x ∷ [])) (step_once x y is w (sym (only y w b (omega arith)))) (Contains-push steps x)

  -- ---- the steps by one way

  module _ (way : Way) (by : IsWay net path layout s way) where
    -- a step by the way with an action has that leg
    pub leg_is : (y : Step) → Is y → y.leg.track.0 ≡ way.track.0 → (a : Action) → y.leg.action ≡ a → y.leg ≡ leg_by s way.track a
    leg_is y h e a f =
        let t = track_same y.leg.track way.track e in
        let m = h.move in
        λ i. record { track = t i; depart = m.time i; from_halt = m.mode i; action = f i }

    pub by_pass : (y : Step) → Is y → bound_of way.track.0 0 ≤ key_of y.leg → key_of y.leg < bound_of way.track.0 1 → y.leg ≡ leg_by s way.track Pass
    by_pass y h l u = let p = key_parts y h way.track.0 0 (omega arith) l u in leg_is y h p.0 Pass (rank_pass y.leg.action p.1)

    pub by_halt : (y : Step) → Is y → bound_of way.track.0 1 ≤ key_of y.leg → key_of y.leg < bound_of way.track.0 2 → y.leg ≡ leg_by s way.track (Halt (dwell_of y.leg.action))
    by_halt y h l u = let p = key_parts y h way.track.0 1 (omega arith) l u in leg_is y h p.0 (Halt (dwell_of y.leg.action)) (rank_halt y.leg.action p.1)

    pub by_wait : (y : Step) → Is y → bound_of way.track.0 2 ≤ key_of y.leg → key_of y.leg < bound_of way.track.0 3 → y.leg ≡ leg_by s way.track (Wait (dwell_of y.leg.action))
    by_wait y h l u = let p = key_parts y h way.track.0 2 (omega arith) l u in leg_is y h p.0 (Wait (dwell_of y.leg.action)) (rank_wait y.leg.action p.1)

    pub by_finish : (y : Step) → Is y → bound_of way.track.0 3 ≤ key_of y.leg → key_of y.leg < bound_of way.track.0 4 → y.leg ≡ leg_by s way.track Finish
    by_finish y h l u = let p = key_parts y h way.track.0 3 (omega arith) l u in leg_is y h p.0 Finish (rank_finish y.leg.action p.1)

    next_halt : (d : ℕ) → next_depart_of net path.kind (leg_by s way.track (Halt d)) ≡ Some (way.halt + d)
    next_halt d = ap (option_map (λ n. n + d)) by.halt

    next_wait : (d : ℕ) → next_depart_of net path.kind (leg_by s way.track (Wait d)) ≡ Some (way.halt + d)
    next_wait d = ap (option_map (λ n. n + d)) by.halt

    -- a step that does not finish departs before the deadline
    late : (y : Step) → Is y → (a : Action) → y.leg ≡ leg_by s way.track a → is_finish a ≡ false → (n : ℕ) → next_depart_of net path.kind (leg_by s way.track a) ≡ Some n → n < deadline_of layout (done_after a s.done) way.head
    late y h a e f n next = go (subst (λ leg. LeadsTo net path layout s leg y.to) e h.leads)
      where
        go : LeadsTo net path layout s (leg_by s way.track a) y.to → n < deadline_of layout (done_after a s.done) way.head
        go (inl g) = absurd (true≢false (sym (ap is_finish g.0) ∙ f))
        go (inr g) =
            let m = some_same _ n g.0.minute next g.1.time in
            let h : g.0.station ≡ way.head = some_same _ g.0.station way.head g.1.place by.head in
            let done : g.0.done ≡ done_after a s.done = g.1.done in
            let d : deadline_of layout g.0.done g.0.station ≡ deadline_of layout (done_after a s.done) way.head = (λ i. deadline_of layout (done i) (h i)) in
            let t = g.2.timely in
            omega (arith, m, d, t)

    pub pass_late : (y : Step) → Is y → y.leg ≡ leg_by s way.track Pass → way.pass < way.deadline
    pass_late y h e = let l = late y h Pass e refl way.pass by.pass in let w = by.deadline in omega (arith, l, w)

    pub halt_late : (y : Step) → Is y → (d : ℕ) → y.leg ≡ leg_by s way.track (Halt d) → way.halt + d < deadline_of layout (s.done + 1) way.head
    halt_late y h d e = late y h (Halt d) e refl (way.halt + d) (next_halt d)

    pub wait_late : (y : Step) → Is y → (d : ℕ) → y.leg ≡ leg_by s way.track (Wait d) → way.halt + d < way.deadline
    wait_late y h d e = let l = late y h (Wait d) e refl (way.halt + d) (next_wait d) in let w = by.deadline in omega (arith, l, w)

    -- what is right there
    pub halt_fits : (y : Step) → Is y → (d : ℕ) → y.leg ≡ leg_by s way.track (Halt d) → IsSomeAnd (slice_get path.stops s.done) (MeetsStop net path.kind (leg_by s way.track (Halt d)))
    halt_fits y h d e = subst (λ leg. FitsAction net path s.done leg leg.action) e h.move.action

    pub wait_fits : (y : Step) → Is y → (d : ℕ) → y.leg ≡ leg_by s way.track (Wait d) → IsFromTo 1 path.wait_max d
    wait_fits y h d e = subst (λ leg. FitsAction net path s.done leg leg.action) e h.move.action

    pub finish_fits : (y : Step) → Is y → y.leg ≡ leg_by s way.track Finish → (s.done ≡ length path.stops) × (way.head ≡ path.destination) × IsFromTo path.arrive.from path.arrive.to way.halt
    finish_fits y h e =
        let f : FitsAction net path s.done (leg_by s way.track Finish) Finish = subst (λ leg. FitsAction net path s.done leg leg.action) e h.move.action in
        (f.0, some_same _ way.head path.destination by.head f.1.place, within_of _ way.halt path.arrive.from path.arrive.to by.halt f.1.time)

    -- a halt meets the stop there
    pub halt_meets : (d : ℕ) (stop : Stop) → MeetsStop net path.kind (leg_by s way.track (Halt d)) stop → (stop.station ≡ way.head) × IsFromTo stop.arrive.from stop.arrive.to way.halt × IsFromTo stop.min_dwell stop.max_dwell d
    halt_meets d stop m = (some_same _ stop.station way.head m.place by.head, within_of _ way.halt stop.arrive.from stop.arrive.to by.halt m.time, m.dwell)

    move_by : (a : Action) → FitsAction net path s.done (leg_by s way.track a) a → IsMove net path s (leg_by s way.track a)
    move_by a f = record { place = by.tail; time = refl; mode = refl; may_use = by.may_use; action = f }

    -- ---- and back: the steps that are there

    abbrev after_pass : State
    after_pass = record { station = way.head; minute = way.pass; halted = false; done = s.done }

    abbrev after_halt : ℕ → State
    after_halt d = record { station = way.head; minute = way.halt + d; halted = true; done = s.done + 1 }

    abbrev after_wait : ℕ → State
    after_wait d = record { station = way.head; minute = way.halt + d; halted = true; done = s.done }

    pub pass_step : IsTimely layout after_pass → Is (record { leg = leg_by s way.track Pass; to = place_of layout after_pass })
    pass_step p = record { move = move_by Pass tt; leads = inr (after_pass, record { place = by.head; time = by.pass; mode = refl; done = refl }, p, refl) }

    pub halt_step : (d : ℕ) (stop : Stop) → slice_get path.stops s.done ≡ Some stop → stop.station ≡ way.head → stop.arrive.from ≤ way.halt → way.halt ≤ stop.arrive.to
        → stop.min_dwell ≤ d → d ≤ stop.max_dwell → IsTimely layout (after_halt d) → Is (record { leg = leg_by s way.track (Halt d); to = place_of layout (after_halt d) })
    halt_step d stop at there early end least most p =
        let meets : MeetsStop net path.kind (leg_by s way.track (Halt d)) stop = record { place = by.head ∙ ap Some (sym there); time = within_some _ way.halt stop.arrive.from stop.arrive.to by.halt early end; dwell = (least, most) } in
        record {
          move = move_by (Halt d) (subst (λ o. IsSomeAnd o (MeetsStop net path.kind (leg_by s way.track (Halt d)))) (sym at) meets);
          leads = inr (after_halt d, record { place = by.head; time = next_halt d; mode = refl; done = refl }, p, refl);
        }

    pub wait_step : (d : ℕ) → 1 ≤ d → d ≤ path.wait_max → IsTimely layout (after_wait d) → Is (record { leg = leg_by s way.track (Wait d); to = place_of layout (after_wait d) })
    wait_step d least most p = record {
      move = move_by (Wait d) (least, most);
      leads = inr (after_wait d, record { place = by.head; time = next_wait d; mode = refl; done = refl }, p, refl);
    }

    pub finish_step : s.done ≡ length path.stops → way.head ≡ path.destination → path.arrive.from ≤ way.halt → way.halt ≤ path.arrive.to → Is (record { leg = leg_by s way.track Finish; to = places_of layout })
    finish_step done there early end = record {
      move = move_by Finish (done, record { finish = refl; place = by.head ∙ ap Some there; time = within_some _ way.halt path.arrive.from path.arrive.to by.halt early end });
      leads = inl (refl, refl);
    }

    -- ---- the list as it grows, action by action

    abbrev Below : ℕ → List Step → Type 0
    Below bound steps = AreStepsBelow net path layout s bound steps

    pub pass_none : (steps : List Step) → Below (bound_of way.track.0 0) steps → way.deadline ≤ way.pass → Below (bound_of way.track.0 1) steps
    pass_none steps h late = skip_steps (bound_of way.track.0 0) (bound_of way.track.0 1) steps (omega arith) h
        (λ y w l u. let p = pass_late y w (by_pass y w l u) in absurd (omega arith))

    pub pass_push : (steps : List Step) → Below (bound_of way.track.0 0) steps → IsTimely layout after_pass → Below (bound_of way.track.0 1) (steps ++ record { leg = leg_by s way.track Pass; to = place_of layout after_pass } ∷ [])
    pass_push steps h p = skip_steps (bound_of way.track.0 0 + 0 + 1) (bound_of way.track.0 1) (steps ++ record { leg = leg_by s way.track Pass; to = place_of layout after_pass } ∷ []) (omega arith)
        (push_step (bound_of way.track.0 0) steps (record { leg = leg_by s way.track Pass; to = place_of layout after_pass }) h (pass_step p) (omega arith) (λ y w l u. by_pass y w l (omega (arith, u))))
        (λ y w l u. let e = ap key_of (by_pass y w (omega (arith, l)) u) in absurd (omega (arith, l, e)))

    meets_at : (y : Step) → Is y → (stop : Stop) → slice_get path.stops s.done ≡ Some stop → (d : ℕ) → y.leg ≡ leg_by s way.track (Halt d)
        → (stop.station ≡ way.head) × IsFromTo stop.arrive.from stop.arrive.to way.halt × IsFromTo stop.min_dwell stop.max_dwell d
    meets_at y w stop at d e = halt_meets d stop (stop_of (MeetsStop net path.kind (leg_by s way.track (Halt d))) (slice_get path.stops s.done) stop at (halt_fits y w d e))

    pub halt_no_stop : (steps : List Step) → Below (bound_of way.track.0 1) steps → slice_get path.stops s.done ≡ None → Below (bound_of way.track.0 2) steps
    halt_no_stop steps h none = skip_steps (bound_of way.track.0 1) (bound_of way.track.0 2) steps (omega arith) h
        (λ y w l u. subst (λ o. IsSomeAnd o (MeetsStop net path.kind (leg_by s way.track (Halt (dwell_of y.leg.action))))) none (halt_fits y w (dwell_of y.leg.action) (by_halt y w l u)))

    pub halt_none : (steps : List Step) → Below (bound_of way.track.0 1) steps → (stop : Stop) → slice_get path.stops s.done ≡ Some stop
        → ((stop.station ≡ way.head) × (stop.arrive.from ≤ way.halt) × (way.halt ≤ stop.arrive.to) → ⊥) → Below (bound_of way.track.0 2) steps
    halt_none steps h stop at apart = skip_steps (bound_of way.track.0 1) (bound_of way.track.0 2) steps (omega arith) h
        (λ y w l u. let m = meets_at y w stop at (dwell_of y.leg.action) (by_halt y w l u) in apart (m.0, m.1.0, m.1.1))

    pub halt_start : (steps : List Step) → Below (bound_of way.track.0 1) steps → (stop : Stop) → slice_get path.stops s.done ≡ Some stop → stop.min_dwell ≤ 240 → Below (bound_of way.track.0 1 + stop.min_dwell) steps
    halt_start steps h stop at few = skip_steps (bound_of way.track.0 1) (bound_of way.track.0 1 + stop.min_dwell) steps (omega arith) h
        (λ y w l u. let e = by_halt y w l (omega (arith, u, few)) in let m = meets_at y w stop at (dwell_of y.leg.action) e in let k = ap key_of e in absurd (omega (arith, m.2.0, k, u)))

    pub halt_push : (steps : List Step) (stop : Stop) (d : ℕ) → slice_get path.stops s.done ≡ Some stop → (stop.station ≡ way.head) × (stop.arrive.from ≤ way.halt) × (way.halt ≤ stop.arrive.to)
        → stop.min_dwell ≤ d → d ≤ stop.max_dwell → stop.max_dwell ≤ 240 → IsTimely layout (after_halt d) → Below (bound_of way.track.0 1 + d) steps
        → Below (bound_of way.track.0 1 + (d + 1)) (steps ++ record { leg = leg_by s way.track (Halt d); to = place_of layout (after_halt d) } ∷ [])
    halt_push steps stop d at fits least most few p h =
        let e : bound_of way.track.0 1 + d + 1 ≡ bound_of way.track.0 1 + (d + 1) = omega arith in
        subst (λ n. Below n (steps ++ record { leg = leg_by s way.track (Halt d); to = place_of layout (after_halt d) } ∷ [])) e
        (push_step (bound_of way.track.0 1 + d) steps (record { leg = leg_by s way.track (Halt d); to = place_of layout (after_halt d) }) h
        (halt_step d stop at fits.0 fits.1 fits.2 least most p) (omega arith)
        (λ y w l u.
        let f = by_halt y w (omega (arith, l)) (omega (arith, u)) in
        let k = ap key_of f in
        let same : dwell_of y.leg.action ≡ d = omega (arith, k, l, u) in
        f ∙ ap (λ n. leg_by s way.track (Halt n)) same))

    pub halt_end : (steps : List Step) (stop : Stop) (d : ℕ) → slice_get path.stops s.done ≡ Some stop → stop.max_dwell ≤ 240 → d ≤ 256
        → (stop.max_dwell < d) ⊎ (deadline_of layout (s.done + 1) way.head ≤ way.halt + d) → Below (bound_of way.track.0 1 + d) steps → Below (bound_of way.track.0 2) steps
    halt_end steps stop d at few small over h = skip_steps (bound_of way.track.0 1 + d) (bound_of way.track.0 2) steps (omega arith) h
        (λ y w l u.
        let e = by_halt y w (omega (arith, l)) u in
        let m = meets_at y w stop at (dwell_of y.leg.action) e in
        let p = halt_late y w (dwell_of y.leg.action) e in
        let k = ap key_of e in
        let from : d ≤ dwell_of y.leg.action = omega (arith, k, l) in
        beyond (dwell_of y.leg.action) from m.2.1 p over)
      where
        beyond : (n : ℕ) → d ≤ n → n ≤ stop.max_dwell → way.halt + n < deadline_of layout (s.done + 1) way.head → (stop.max_dwell < d) ⊎ (deadline_of layout (s.done + 1) way.head ≤ way.halt + d) → ⊥
        beyond n from most p (inl o) = omega arith
        beyond n from most p (inr o) = omega arith

    pub wait_start : (steps : List Step) → Below (bound_of way.track.0 2) steps → Below (bound_of way.track.0 2 + 1) steps
    wait_start steps h = skip_steps (bound_of way.track.0 2) (bound_of way.track.0 2 + 1) steps (omega arith) h
        (λ y w l u. let e = by_wait y w l (omega (arith, u)) in let m = wait_fits y w (dwell_of y.leg.action) e in let k = ap key_of e in absurd (omega (arith, m.0, k, u)))

    pub wait_push : (steps : List Step) (d : ℕ) → 1 ≤ d → d ≤ path.wait_max → IsTimely layout (after_wait d) → Below (bound_of way.track.0 2 + d) steps
        → Below (bound_of way.track.0 2 + (d + 1)) (steps ++ record { leg = leg_by s way.track (Wait d); to = place_of layout (after_wait d) } ∷ [])
    wait_push steps d least most p h =
        let few = setting.wait_max in
        let e : bound_of way.track.0 2 + d + 1 ≡ bound_of way.track.0 2 + (d + 1) = omega arith in
        subst (λ n. Below n (steps ++ record { leg = leg_by s way.track (Wait d); to = place_of layout (after_wait d) } ∷ [])) e
        (push_step (bound_of way.track.0 2 + d) steps (record { leg = leg_by s way.track (Wait d); to = place_of layout (after_wait d) }) h
        (wait_step d least most p) (omega arith)
        (λ y w l u.
        let f = by_wait y w (omega (arith, l)) (omega (arith, u)) in
        let k = ap key_of f in
        let same : dwell_of y.leg.action ≡ d = omega (arith, k, l, u) in
        f ∙ ap (λ n. leg_by s way.track (Wait n)) same))

    pub wait_end : (steps : List Step) (d : ℕ) → d ≤ 256 → (path.wait_max < d) ⊎ (way.deadline ≤ way.halt + d) → Below (bound_of way.track.0 2 + d) steps → Below (bound_of way.track.0 3) steps
    wait_end steps d small over h = skip_steps (bound_of way.track.0 2 + d) (bound_of way.track.0 3) steps (omega arith) h
        (λ y w l u.
        let e = by_wait y w (omega (arith, l)) u in
        let m = wait_fits y w (dwell_of y.leg.action) e in
        let p = wait_late y w (dwell_of y.leg.action) e in
        let k = ap key_of e in
        let from : d ≤ dwell_of y.leg.action = omega (arith, k, l) in
        beyond (dwell_of y.leg.action) from m.1 p over)
      where
        beyond : (n : ℕ) → d ≤ n → n ≤ path.wait_max → way.halt + n < way.deadline → (path.wait_max < d) ⊎ (way.deadline ≤ way.halt + d) → ⊥
        beyond n from most p (inl o) = omega arith
        beyond n from most p (inr o) = omega arith

    pub finish_none : (steps : List Step) → Below (bound_of way.track.0 3) steps
        → ((s.done ≡ length path.stops) × (way.head ≡ path.destination) × (path.arrive.from ≤ way.halt) × (way.halt ≤ path.arrive.to) → ⊥) → Below (bound_of way.track.0 4) steps
    finish_none steps h apart = skip_steps (bound_of way.track.0 3) (bound_of way.track.0 4) steps (omega arith) h
        (λ y w l u. let f = finish_fits y w (by_finish y w l u) in apart (f.0, f.1, f.2.0, f.2.1))

    pub finish_push : (steps : List Step) → Below (bound_of way.track.0 3) steps
        → (s.done ≡ length path.stops) × (way.head ≡ path.destination) × (path.arrive.from ≤ way.halt) × (way.halt ≤ path.arrive.to)
        → Below (bound_of way.track.0 4) (steps ++ record { leg = leg_by s way.track Finish; to = places_of layout } ∷ [])
    finish_push steps h f = skip_steps (bound_of way.track.0 3 + 0 + 1) (bound_of way.track.0 4) (steps ++ record { leg = leg_by s way.track Finish; to = places_of layout } ∷ []) (omega arith)
        (push_step (bound_of way.track.0 3) steps (record { leg = leg_by s way.track Finish; to = places_of layout }) h (finish_step f.0 f.1 f.2 f.3) (omega arith) (λ y w l u. by_finish y w l (omega (arith, u))))
        (λ y w l u. let e = ap key_of (by_finish y w (omega (arith, l)) u) in absurd (omega (arith, l, e)))

    -- ---- the states after them are in time

    -- what is before the deadline is within the layout
    before_end : (done n : ℕ) → n < deadline_of layout done way.head → n < layout.first + layout.minutes
    before_end done n l =
        let most = setting.columns.deadlines.most way.head.0 in
        let d = deadline_least layout done way.head in
        let first = setting.laid.first in
        let minutes = setting.laid.minutes in
        omega (arith, most, d, first, minutes)

    pub passed_at : way.pass < way.deadline → IsTimely layout after_pass
    passed_at late = let early = placed.early in let p = by.pass_later in let d = placed.done in let t = by.deadline in let b = before_end s.done way.pass (omega (arith, late, t)) in
        let head_there = column_there net path layout setting s.done way.head by.station (omega (arith, early, p, late, t)) in record {
          placed = record { early = omega arith; late = b; done = omega (arith, d); station = head_there };
          timely = omega (arith, t);
        }

    slots_room : s.done * 2 + 1 < layout.slots
    slots_room = let d = placed.done in let e = setting.laid.slots in omega (arith, d, e)

    pub waited_at : (d : ℕ) → way.halt + d < way.deadline → IsTimely layout (after_wait d)
    waited_at d late = let early = placed.early in let p = by.halt_later in let r = slots_room in let t = by.deadline in let b = before_end s.done (way.halt + d) (omega (arith, late, t)) in
        let head_there = column_there net path layout setting s.done way.head by.station (omega (arith, early, p, late, t)) in record {
          placed = record { early = omega arith; late = b; done = r; station = head_there };
          timely = omega (arith, t);
        }

    pub halted_at : (d : ℕ) → s.done < length path.stops → way.halt + d < deadline_of layout (s.done + 1) way.head → IsTimely layout (after_halt d)
    halted_at d more late = let early = placed.early in let p = by.halt_later in let e = setting.laid.slots in let b = before_end (s.done + 1) (way.halt + d) late in
        let head_there = column_there net path layout setting (s.done + 1) way.head by.station (omega (arith, early, p, late)) in record {
          placed = record { early = omega arith; late = b; done = omega (arith, e); station = head_there };
          timely = late;
        }

  -- the dwells of a stop are at most 240, and it is one of the path
  pub stop_small : (stop : Stop) → slice_get path.stops s.done ≡ Some stop → (stop.min_dwell ≤ stop.max_dwell) × (stop.max_dwell ≤ 240) × (s.done < length path.stops) × (stop.max_dwell - stop.min_dwell ≤ 30)
  stop_small stop at =
      let l = slice_get_within path.stops s.done stop at in
      let is : IsStop stop = subst IsStop (get_or_from_slice_get path.stops s.done stop stop at) (setting.stops s.done stop l) in
      (is.dwell, is.dwell_max, l, is.spread)

-- a dwell that is not below the end of the dwells is too long
pub dwell_over : (most room arrival d : ℕ) → min (most + 1) (room - arrival) ≤ d → (most < d) ⊎ (room ≤ arrival + d)
dwell_over most room arrival d l = by (cases_lt most d)
  where
    by : (most < d) ⊎ (d ≤ most) → (most < d) ⊎ (room ≤ arrival + d)
    by (inl m) = inl m
    by (inr m) = inr (omega arith)
