-- Which places are reached, and which are kept.
use Rattle.std.proofs.Common.{◌≡◌, ℕ, zero, suc, ◌+◌, ◌≤◌, ◌<◌, ◌⊎◌, inl, inr, Bool, true, false, List, [], ◌∷◌, length, get_or, set, slice_get, refl, sym, ap, ◌∙◌, subst, arith, All, Contains, true≢false, length-set, replicate, cond, nat_eq, nat_lt, min, ◌*◌}
use Rattle.std.specs.List.{count_by}
use Rattle.std.proofs.lemmas.Bool.{cases_eq, cases_lt, ltb-true}
use Rattle.std.proofs.lemmas.List.Elements.{All-contains}
use Rattle.std.proofs.lemmas.Option.{slice_get_within}
use Rattle.optra_network.specs.Net.{Net, IsFromTo}
use Rattle.optra_bid.specs.Specs.{Path}
use Rattle.optra_walk.specs.declared.Action.{Action}
use Rattle.optra_walk.specs.declared.Action.TheVariants.{Pass, Halt, Wait, Finish}
use Rattle.optra_walk.specs.declared.Leg.{Leg}
use Rattle.optra_walk.specs.Walks.{MeetsStop}
use Rattle.optra_walk.specs.declared.state.State.{State}
use Rattle.optra_graph.specs.declared.states.Layout.{Layout}
use Rattle.optra_graph.specs.declared.stepping.Step.{Step}
use Rattle.optra_graph.specs.Columns.{deadline_in, stopping_in}
use Rattle.optra_graph.specs.Flags.{is_set, IsPassed, IsSet, IsStartPlace, IsSteppedTo, AreStartsSet, Marks, IsReached, IsReachedTo, IsTrimmedTo, IsKept}
use Rattle.optra_walk.specs.Moves.{start_state, FitsAction, IsMove, IsAfter, Runs, done_after}
use Rattle.optra_graph.specs.Places.{IsPlaced, IsTimely, deadline_of, mode_of, place_of, places_of, state_of}
use Rattle.optra_graph.specs.Settings.{IsSetting}
use Rattle.optra_graph.specs.Steps.{IsStep, AreSteps}
use Rattle.optra_graph.proofs.FlagLemmas.{set_here, set_there, none_set, count_none, count_some}
use Rattle.optra_graph.proofs.ColumnLemmas.{column_there, columns_back, deadline_least}
use Rattle.optra_graph.proofs.DeadlineLemmas.{runs_timely}
use Rattle.optra_graph.proofs.HorizonLemmas.{after_later, runs_before}
use Rattle.optra_graph.proofs.PlaceLemmas.{placed_at, place_below, place_back, state_back}
use Rattle.optra_graph.proofs.StepLemmas.{step_forward, stop_there}
use Rattle.optra_graph.proofs.WayLemmas.{head_within}

mode_few : (b : Bool) → mode_of b ≤ 1
mode_few true = omega arith
mode_few false = omega arith

suc_apart : (k : ℕ) → nat_eq (suc k) 0 ≡ false
suc_apart k = grind arith

module _ (net : Net) (path : Path) (layout : Layout) (setting : IsSetting net path layout) where
  abbrev At : ℕ → Step → Type 0
  At place step = IsStep net path layout (state_of layout place) step

  -- a step from a place leads to a later one, which is at most the end
  pub forward_at : (place : ℕ) (step : Step) → place < places_of layout → At place step → (place < step.to) × (step.to ≤ places_of layout)
  forward_at place step l h =
      let f = step_forward net path layout setting (state_of layout place) (placed_at layout (columns_back net path layout setting) place l) step h in
      (subst (λ p. p < step.to) (place_back layout (columns_back net path layout setting) place l) f.0, f.1)

  pub steps_within : (place : ℕ) (flags : List Bool) (steps : List Step) → place < places_of layout → length flags ≡ places_of layout + 1 → AreSteps net path layout (state_of layout place) steps
      → All (λ step. step.to < length flags) steps
  steps_within place flags steps b n all k d l = let f = forward_at place (get_or steps k d) b (all.sound k d l) in omega (arith, f.1, n)

  pub start_timely : (m : ℕ) → layout.first ≤ m → m < deadline_of layout 0 path.origin → IsTimely layout (start_state path m)
  start_timely m early timely =
      let s = setting.laid.slots in
      let first = setting.laid.first in
      let minutes = setting.laid.minutes in
      let most = setting.columns.deadlines.most path.origin.0 in
      let least = deadline_least layout 0 path.origin in
      let late : m < layout.first + layout.minutes = omega (arith, first, minutes, most, least) in record {
        placed = record { early = early; late = late; done = omega (arith, s); station = column_there net path layout setting 0 path.origin setting.origin (omega arith) };
        timely = timely;
      }

  -- ---- reached

  pub reached_start : (old flags : List Bool) → old ≡ replicate (places_of layout + 1) false → length old ≡ places_of layout + 1
      → AreStartsSet path layout (layout.first + layout.minutes) old flags → IsReachedTo net path layout 0 flags
  reached_start old flags e n h = record {
    len = h.len ∙ n;
    starts = λ m w p. h.starts m w p.placed.late p;
    closed = λ place step l b s w. absurd (omega arith);
    from = λ place s. by place (h.only place s);
  }
    where
      by : (place : ℕ) → IsSet old place ⊎ IsStartPlace path layout place → IsStartPlace path layout place ⊎ IsSteppedTo net path layout flags place
      by place (inl o) = absurd (none_set (places_of layout + 1) place (subst (λ fs. IsSet fs place) e o))
      by place (inr s) = inl s

  -- places that are not reached add nothing
  pub reached_to : (place next : ℕ) (flags : List Bool) → IsPassed flags place next → IsReachedTo net path layout place flags → IsReachedTo net path layout next flags
  reached_to place next flags passed h = record {
    len = h.len;
    starts = h.starts;
    closed = λ q step l b s w. by q step l b s w (cases_lt q place);
    from = h.from;
  }
    where
      by : (q : ℕ) (step : Step) → q < next → q < places_of layout → IsSet flags q → At q step → (q < place) ⊎ (place ≤ q) → IsSet flags step.to
      by q step l b s w (inl m) = h.closed q step m b s w
      by q step l b s w (inr m) = absurd (passed q m l s)

  -- the steps of a place lead to no place before it
  pub marks_later : (place : ℕ) (steps : List Step) (flags new : List Bool) → place < places_of layout → AreSteps net path layout (state_of layout place) steps → Marks steps flags new
      → (q : ℕ) → q < place → IsSet new q → IsSet flags q
  marks_later place steps flags new l all marks q a s = old (marks.only q s)
    where
      old : IsSet flags q ⊎ ((x : Step) × Contains steps x × (x.to ≡ q)) → IsSet flags q
      old (inl o) = o
      old (inr (x, c, e)) = let f = forward_at place x l (All-contains (IsStep net path layout (state_of layout place)) steps x all.sound c) in absurd (omega (arith, f.0))

  -- one that is reached hands it on
  pub reached_more : (place : ℕ) (steps : List Step) (flags new : List Bool) → place < places_of layout → IsSet flags place → AreSteps net path layout (state_of layout place) steps
      → Marks steps flags new → IsReachedTo net path layout place flags → IsReachedTo net path layout (place + 1) new
  reached_more place steps flags new l set all marks h = record {
    len = marks.len ∙ h.len;
    starts = λ m w p. marks.keeps _ (h.starts m w p);
    closed = λ q step m b s w. by q step m b s w (cases_lt q place);
    from = λ q s. back q (marks.only q s);
  }
    where
      by : (q : ℕ) (step : Step) → q < place + 1 → q < places_of layout → IsSet new q → At q step → (q < place) ⊎ (place ≤ q) → IsSet new step.to
      by q step m b s w (inl a) = marks.keeps step.to (h.closed q step a b (marks_later place steps flags new l all marks q a s) w)
      by q step m b s w (inr a) = let f : q ≡ place = omega arith in marks.marks step (all.whole step (subst (λ p. At p step) f w))

      lift : (q : ℕ) → IsStartPlace path layout q ⊎ IsSteppedTo net path layout flags q → IsStartPlace path layout q ⊎ IsSteppedTo net path layout new q
      lift q (inl s) = inl s
      lift q (inr (p, step, b, m, s, w, e)) = inr (p, step, b, m, marks.keeps p s, w, e)

      back : (q : ℕ) → IsSet flags q ⊎ ((x : Step) × Contains steps x × (x.to ≡ q)) → IsStartPlace path layout q ⊎ IsSteppedTo net path layout new q
      back q (inl o) = lift q (h.from q o)
      back q (inr (x, c, e)) =
          let w = All-contains (IsStep net path layout (state_of layout place)) steps x all.sound c in
          let f = forward_at place x l w in
          inr (place, x, l, omega (arith, f.0), marks.keeps place set, w, e)

  pub reached_all : (flags : List Bool) (n : ℕ) → places_of layout ≤ n → IsReachedTo net path layout n flags → IsReached net path layout flags
  reached_all flags n far h = record { len = h.len; starts = h.starts; closed = λ place step l s w. h.closed place step (omega arith) l s w; from = h.from }

  -- ---- trimmed

  pub trimmed_start : (reached : List Bool) → IsTrimmedTo net path layout (places_of layout) reached reached
  trimmed_start reached = record {
    len = refl;
    few = omega arith;
    below = λ p l. refl;
    end = refl;
    only = λ p h. h;
    goes_on = λ p l m h. absurd (omega arith);
    whole = λ p step l m h w o. absurd (omega arith);
  }

  -- a place whose flag stays as it is: it is not reached, or goes on
  pub trimmed_same : (n : ℕ) (reached flags : List Bool) → n < places_of layout → (IsSet flags n → (step : Step) × At n step × IsSet flags step.to)
      → IsTrimmedTo net path layout (n + 1) reached flags → IsTrimmedTo net path layout n reached flags
  trimmed_same n reached flags b on h = record {
    len = h.len;
    few = omega arith;
    below = λ p l. h.below p (omega arith);
    end = h.end;
    only = h.only;
    goes_on = λ p l m s. by p l m s (cases_eq p n);
    whole = λ p step l m s w o. keep p step l m s w o (cases_eq p n);
  }
    where
      by : (p : ℕ) → n ≤ p → p < places_of layout → IsSet flags p → (p ≡ n) ⊎ (p ≡ n → ⊥) → (step : Step) × At p step × IsSet flags step.to
      by p l m s (inl e) = let w = on (subst (IsSet flags) e s) in (w.0, subst (λ q. At q w.0) (sym e) w.1, w.2)
      by p l m s (inr e) = h.goes_on p (omega (arith, e)) m s

      keep : (p : ℕ) (step : Step) → n ≤ p → p < places_of layout → IsSet reached p → At p step → IsSet flags step.to → (p ≡ n) ⊎ (p ≡ n → ⊥) → IsSet flags p
      keep p step l m s w o (inl e) = h.below p (omega arith) ∙ s
      keep p step l m s w o (inr e) = h.whole p step (omega (arith, e)) m s w o

  -- a place that is cleared, since no step of it leads on
  pub trimmed_cut : (n : ℕ) (reached flags : List Bool) → n < places_of layout → n < length flags → ((step : Step) → At n step → IsSet flags step.to → ⊥)
      → IsTrimmedTo net path layout (n + 1) reached flags → IsTrimmedTo net path layout n reached (set flags n false)
  trimmed_cut n reached flags b within stuck h = record {
    len = length-set flags n false ∙ h.len;
    few = omega arith;
    below = λ p l. set_there flags n p false (λ e. omega (arith, e)) ∙ h.below p (omega arith);
    end = set_there flags n (places_of layout) false (λ e. omega (arith, e)) ∙ h.end;
    only = λ p s. h.only p (old p s);
    goes_on = λ p l m s.
        let w = h.goes_on p (more p l s) m (old p s) in
        let f = forward_at p w.0 m w.1 in
        (w.0, w.1, set_there flags n w.0.to false (λ e. omega (arith, e, f.0)) ∙ w.2);
    whole = λ p step l m s w o. keep p step l m s w o (cases_eq p n);
  }
    where
      -- what is still set was set, and is another place
      apart : (p : ℕ) → IsSet (set flags n false) p → p ≡ n → ⊥
      apart p s e = true≢false (sym s ∙ ap (is_set (set flags n false)) e ∙ set_here flags n false within)

      old : (p : ℕ) → IsSet (set flags n false) p → IsSet flags p
      old p s = sym (set_there flags n p false (apart p s)) ∙ s

      more : (p : ℕ) → n ≤ p → IsSet (set flags n false) p → n + 1 ≤ p
      more p l s = let a = apart p s in by (cases_lt n p) a
        where
          by : (n < p) ⊎ (p ≤ n) → (p ≡ n → ⊥) → n + 1 ≤ p
          by (inl x) a = omega arith
          by (inr x) a = absurd (a (omega arith))

      keep : (p : ℕ) (step : Step) → n ≤ p → p < places_of layout → IsSet reached p → At p step → IsSet (set flags n false) step.to → (p ≡ n) ⊎ (p ≡ n → ⊥) → IsSet (set flags n false) p
      keep p step l m s w o (inl e) = absurd (stuck step (subst (λ q. At q step) e w) (old step.to o))
      keep p step l m s w o (inr e) = set_there flags n p false e ∙ h.whole p step (omega (arith, e)) m s w (old step.to o)

  -- places that are not reached are trimmed
  pub trimmed_to : (m n : ℕ) (reached flags : List Bool) → m ≤ n → ((place : ℕ) → m ≤ place → place < n → IsSet reached place → ⊥) → IsTrimmedTo net path layout n reached flags → IsTrimmedTo net path layout m reached flags
  trimmed_to m n reached flags l none h = record {
    len = h.len;
    few = let f = h.few in omega arith;
    below = λ p b. h.below p (omega arith);
    end = h.end;
    only = h.only;
    goes_on = λ p b k s. by p b k s (cases_lt p n);
    whole = λ p step b k s w o. keep p step b k s w o (cases_lt p n);
  }
    where
      by : (p : ℕ) → m ≤ p → p < places_of layout → IsSet flags p → (p < n) ⊎ (n ≤ p) → (step : Step) × At p step × IsSet flags step.to
      by p b k s (inl c) = absurd (none p b c (h.only p s))
      by p b k s (inr c) = h.goes_on p c k s

      keep : (p : ℕ) (step : Step) → m ≤ p → p < places_of layout → IsSet reached p → At p step → IsSet flags step.to → (p < n) ⊎ (n ≤ p) → IsSet flags p
      keep p step b k s w o (inl c) = absurd (none p b c s)
      keep p step b k s w o (inr c) = h.whole p step c k s w o

  pub trimmed_more : (n : ℕ) (steps : List Step) (reached flags new : List Bool) (on : ℕ) → n < places_of layout → n < length flags → AreSteps net path layout (state_of layout n) steps
      → on ≡ count_by (λ step. is_set flags step.to) steps → new ≡ cond (nat_eq on 0) (set flags n false) flags
      → IsTrimmedTo net path layout (n + 1) reached flags → IsTrimmedTo net path layout n reached new
  trimmed_more n steps reached flags new on b within all count e h = by on count e
    where
      by : (k : ℕ) → k ≡ count_by (λ step. is_set flags step.to) steps → new ≡ cond (nat_eq k 0) (set flags n false) flags → IsTrimmedTo net path layout n reached new
      by zero c f = subst (IsTrimmedTo net path layout n reached) (sym f)
          (trimmed_cut n reached flags b within (λ step w o. count_none (λ (x : Step). is_set flags x.to) steps step (sym c) (all.whole step w) o) h)
      by (suc k) c f = subst (IsTrimmedTo net path layout n reached) (sym (f ∙ ap (λ b. cond b (set flags n false) flags) (suc_apart k)))
          (trimmed_same n reached flags b (λ _. let w = count_some (λ (x : Step). is_set flags x.to) steps (λ z. omega (arith, z, c)) in (w.0, All-contains (IsStep net path layout (state_of layout n)) steps w.0 all.sound w.1, w.2)) h)

  -- ---- kept

  done_few : (s : State) → IsPlaced layout s → s.done ≤ length path.stops
  done_few s p = let d = p.done in let e = setting.laid.slots in omega (arith, d, e)

  done_next : (s : State) (leg : Leg) (a : Action) → s.done ≤ length path.stops → FitsAction net path s.done leg a → done_after a s.done ≤ length path.stops
  done_next s leg Pass l f = l
  done_next s leg (Halt d) l f =
      let at = stop_there (MeetsStop net path.kind leg) (slice_get path.stops s.done) f in
      let w = slice_get_within path.stops s.done at.0 at.1 in omega arith
  done_next s leg (Wait d) l f = l
  done_next s leg Finish l f = l

  -- who runs on to the end departs before the deadline
  run_timely : (s : State) (legs : List Leg) → Runs net path s legs → s.minute < deadline_of layout s.done s.station
  run_timely s legs r = by (nat_lt (s.done * 2 + 2) layout.slots) refl
    where
      by : (b : Bool) → nat_lt (s.done * 2 + 2) layout.slots ≡ b
          → s.minute < cond b (min (deadline_in layout.columns.now s.station) (stopping_in layout.columns.now s.station)) (deadline_in layout.columns.now s.station)
      by true e =
          let l = ltb-true (s.done * 2 + 2) layout.slots e in
          let slots = setting.laid.slots in
          let a = runs_timely net path layout.columns.now.deadlines.items setting.columns.deadlines s legs r in
          let b = setting.columns.stopping.holds s legs (omega (arith, l, slots)) r in
          omega (arith, a, b)
      by false e = runs_timely net path layout.columns.now.deadlines.items setting.columns.deadlines s legs r

  -- the state after a leg from which a run goes on is in time
  pub after_timely : (s after : State) (leg : Leg) (rest : List Leg) → IsPlaced layout s → IsMove net path s leg → IsAfter net path s leg after → Runs net path after rest → IsTimely layout after
  after_timely s after leg rest p m a r =
      let later = after_later net path setting.proper s after leg m a in
      let before = runs_before net path setting.proper after rest r in
      let early = p.early in
      let first = setting.laid.first in
      let minutes = setting.laid.minutes in
      let slots = setting.laid.slots in
      let done = done_next s leg leg.action (done_few s p) m.action in
      let same = a.done in
      let mode = mode_few after.halted in
      let station = head_within net leg.track.0 after.station setting.proper a.place in
      let timely = run_timely after rest r in
      record {
        placed = record {
          early = omega arith;
          late = omega arith;
          done = omega (arith, done, same, mode, slots);
          station = column_there net path layout setting after.done after.station station (omega arith);
        };
        timely = timely;
      }

  module _ (reached flags : List Bool) (h : IsReached net path layout reached) (t : IsTrimmedTo net path layout 0 reached flags) where
    -- the legs of a run from a reached place stay on kept places
    abbrev Kept : ℕ → List Leg → Type 0
    Kept place [] = ⊥
    Kept place (leg ∷ rest) = (to : ℕ) × At place (record { leg = leg; to = to }) × IsSet flags to

    kept_by : (legs : List Leg) (place : ℕ) → place < places_of layout → IsSet reached place → Runs net path (state_of layout place) legs → Kept place legs × IsSet flags place
    kept_by [] place l s r = absurd r
    kept_by (leg ∷ rest) place l s (m, inl f) =
        let w : At place (record { leg = leg; to = places_of layout }) = record { move = m; leads = inl (f.0, refl) } in
        let end : IsSet flags (places_of layout) = t.end ∙ h.closed place (record { leg = leg; to = places_of layout }) l s w in
        ((places_of layout, w, end), t.whole place (record { leg = leg; to = places_of layout }) (omega arith) l s w end)
    kept_by (leg ∷ rest) place l s (m, inr (after, a, r)) =
        let timely = after_timely (state_of layout place) after leg rest (placed_at layout (columns_back net path layout setting) place l) m a r in
        let p = timely.placed in
        let w : At place (record { leg = leg; to = place_of layout after }) = record { move = m; leads = inr (after, a, timely, refl) } in
        let on = kept_by rest (place_of layout after) (place_below layout after p) (h.closed place (record { leg = leg; to = place_of layout after }) l s w)
        (subst (λ x. Runs net path x rest) (sym (state_back layout after p)) r) in
        ((place_of layout after, w, on.1), t.whole place (record { leg = leg; to = place_of layout after }) (omega arith) l s w on.1)

    pub kept_all : IsKept net path layout flags
    kept_all = record {
      len = t.len ∙ h.len;
      starts = λ m legs w r.
          let p = start m legs w r in
          let k = kept_by legs (place_of layout (start_state path m)) (place_below layout (start_state path m) p.placed) (h.starts m w p)
          (subst (λ x. Runs net path x legs) (sym (state_back layout (start_state path m) p.placed)) r) in
          (p, k.1);
      runs = λ place leg rest l s r. let k = kept_by (leg ∷ rest) place l (t.only place s) r in k.0;
      from = λ place s. by place s (h.from place (t.only place s));
      goes_on = λ place l s. t.goes_on place (omega arith) l s;
    }
      where
        start : (m : ℕ) (legs : List Leg) → IsFromTo path.depart.from path.depart.to m → Runs net path (start_state path m) legs → IsTimely layout (start_state path m)
        start m legs w r =
            let first = setting.laid.first in
            let from = w.0 in
            start_timely m (omega arith) (run_timely (start_state path m) legs r)

        by : (place : ℕ) → IsSet flags place → IsStartPlace path layout place ⊎ IsSteppedTo net path layout reached place → IsStartPlace path layout place ⊎ IsSteppedTo net path layout flags place
        by place s (inl x) = inl x
        by place s (inr (q, step, b, m, r, w, e)) = inr (q, step, b, m, t.whole q step (omega arith) b r w (subst (IsSet flags) (sym e) s), w, e)
