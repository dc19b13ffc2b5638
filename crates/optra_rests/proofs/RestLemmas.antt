-- Walks are runs.
use Rattle.std.proofs.Common.{◌≡◌, ℕ, zero, suc, ◌+◌, ◌-◌, ◌≤◌, inl, inr, Bool, true, false, cond, List, [], ◌∷◌, length, drop, get_or, filter, All, Option, None, Some, IsSomeAnd, slice_get, refl, sym, ap, ◌∙◌, subst, arith, true≢false, zero-le}
use Rattle.std.proofs.lemmas.List.Elements.{All-cons}
use Rattle.std.specs.List.{AllZip, AllAdjacentBelow}
use Rattle.optra_network.specs.Net.{Net, MayUse, IsFromTo}
use Rattle.optra_network.specs.declared.StationId.{StationId}
use Rattle.optra_network.specs.declared.Track.{Track}
use Rattle.std.specs.Option.{option_map}
use Rattle.optra_bid.specs.Specs.{Path}
use Rattle.optra_bid.specs.declared.Stop.{Stop}
use Rattle.optra_walk.specs.declared.Action.{Action}
use Rattle.optra_walk.specs.declared.Action.TheVariants.{Pass, Halt, Wait, Finish}
use Rattle.optra_walk.specs.declared.Leg.{Leg}
use Rattle.optra_walk.specs.Legs.{is_halt, is_finish, next_depart_of, arrival_of, after_action}
use Rattle.optra_walk.specs.Values.{first_departure}
use Rattle.optra_walk.specs.Walks.{IsWalk, IsNext, IsEnd, IsAllowedWait, MeetsStop, FinishesLast, tail_of, head_of, last_leg}
use Rattle.optra_walk.specs.declared.state.State.{State}
use Rattle.optra_walk.specs.Moves.{start_state, FitsAction, IsMove, Runs, done_after}

-- a walk without its start, with the stops that are left
pub record IsTail (net : Net) (path : Path) (left : List Stop) (legs : List Leg) : Type 0 where
  pub may_use : All (λ leg. MayUse net leg.track path.kind) legs
  pub goes_on : AllAdjacentBelow (IsNext net path.kind) legs (length legs)
  pub stops : AllZip (MeetsStop net path.kind) (filter (λ leg. is_halt leg.action) legs) left
  pub waits : All (λ leg. IsAllowedWait path.wait_max leg.action) legs
  pub end : IsSomeAnd (last_leg legs) (IsEnd net path)
  pub finishes_last : FinishesLast legs

-- the first leg leaves as the state says
pub record LeavesAs (net : Net) (s : State) (leg : Leg) : Type 0 where
  pub place : tail_of net leg ≡ Some s.station
  pub time : leg.depart ≡ s.minute
  pub mode : leg.from_halt ≡ s.halted

pub all_tail : {X : Type 0} (P : X → Type 0) (x : X) (xs : List X) → All P (x ∷ xs) → All P xs
all_tail P x xs h k d l = h (suc k) d (omega arith)

pub all_head : {X : Type 0} (P : X → Type 0) (x : X) (xs : List X) → All P (x ∷ xs) → P x
all_head P x xs h = h 0 x (omega arith)

adjacent_tail : {X : Type 0} (R : X → X → Type 0) (x : X) (xs : List X) → AllAdjacentBelow R (x ∷ xs) (length (x ∷ xs)) → AllAdjacentBelow R xs (length xs)
adjacent_tail R x xs h k d l =
    let e : suc k + 1 ≡ suc (k + 1) = omega arith in
    subst (λ i. R (get_or xs k d) (get_or (x ∷ xs) i d)) e (h (suc k) d (omega arith))

adjacent_head : {X : Type 0} (R : X → X → Type 0) (x y : X) (xs : List X) → AllAdjacentBelow R (x ∷ y ∷ xs) (length (x ∷ y ∷ xs)) → R x y
adjacent_head R x y xs h = h 0 x (omega arith)

adjacent_cons : {X : Type 0} (R : X → X → Type 0) (x y : X) (xs : List X) → R x y → AllAdjacentBelow R (y ∷ xs) (length (y ∷ xs)) → AllAdjacentBelow R (x ∷ y ∷ xs) (length (x ∷ y ∷ xs))
adjacent_cons R x y xs r h zero d l = r
adjacent_cons R x y xs r h (suc k) d l =
    let e : suc (k + 1) ≡ suc k + 1 = omega arith in
    subst (λ i. R (get_or (y ∷ xs) k d) (get_or (x ∷ y ∷ xs) i d)) e (h k d (omega arith))

pub last_suc : (x y : Leg) (r : List Leg) → last_leg (x ∷ y ∷ r) ≡ last_leg (y ∷ r)
last_suc x y r =
    let e : suc (suc (length r)) - 1 ≡ suc (suc (length r) - 1) = omega arith in
    ap (slice_get (x ∷ y ∷ r)) e

finishes_tail : (x : Leg) (xs : List Leg) → FinishesLast (x ∷ xs) → FinishesLast xs
finishes_tail x xs h k l = h (suc k) (omega arith)

finishes_head : (x y : Leg) (xs : List Leg) → FinishesLast (x ∷ y ∷ xs) → is_finish x.action ≡ false
finishes_head x y xs h = h 0 (omega arith)

finishes_cons : (x : Leg) (xs : List Leg) → is_finish x.action ≡ false → FinishesLast xs → FinishesLast (x ∷ xs)
finishes_cons x xs n h zero l = n
finishes_cons x xs n h (suc k) l = h k (omega arith)

stop_split : (R : Stop → Type 0) (S : Leg → Stop → Type 0) (x : Leg) (xs : List Leg) (stops : List Stop) (n : ℕ)
    → ((s : Stop) → S x s → R s) → AllZip S (x ∷ xs) (drop n stops) → IsSomeAnd (slice_get stops n) R × AllZip S xs (drop (n + 1) stops) × (n + 1 ≤ length stops)
stop_split R S x xs [] zero f h = absurd h
stop_split R S x xs [] (suc n) f h = absurd h
stop_split R S x xs (s ∷ ss) zero f h = (f s h.0, h.1, omega arith)
stop_split R S x xs (s ∷ ss) (suc n) f h =
    let t = stop_split R S x xs ss n f h in
    let e : suc (n + 1) ≡ suc n + 1 = omega arith in
    let l : n + 1 ≤ length ss = t.2 in
    (t.0, subst (λ i. AllZip S xs (drop i (s ∷ ss))) e t.1, omega arith)

stop_join : (S : Leg → Stop → Type 0) (x : Leg) (xs : List Leg) (stops : List Stop) (n : ℕ)
    → IsSomeAnd (slice_get stops n) (S x) → AllZip S xs (drop (n + 1) stops) → AllZip S (x ∷ xs) (drop n stops)
stop_join S x xs [] zero f h = absurd f
stop_join S x xs [] (suc n) f h = absurd f
stop_join S x xs (s ∷ ss) zero f h = (f, h)
stop_join S x xs (s ∷ ss) (suc n) f h =
    let e : suc n + 1 ≡ suc (n + 1) = omega arith in
    stop_join S x xs ss n f (subst (λ i. AllZip S xs (drop i (s ∷ ss))) e h)

stops_over : (S : Leg → Stop → Type 0) (stops : List Stop) (n : ℕ) → n ≤ length stops → AllZip S [] (drop n stops) → n ≡ length stops
stops_over S [] n l h = omega arith
stops_over S (s ∷ ss) zero l h = absurd h
stops_over S (s ∷ ss) (suc n) l h = ap suc (stops_over S ss n (omega arith) h)

over_stops : (S : Leg → Stop → Type 0) (stops : List Stop) (n : ℕ) → n ≡ length stops → AllZip S [] (drop n stops)
over_stops S [] zero e = tt
over_stops S [] (suc n) e = tt
over_stops S (s ∷ ss) zero e = absurd (omega arith)
over_stops S (s ∷ ss) (suc n) e = over_stops S ss n (omega arith)

-- the filter at a leg
filter_at : (x : Leg) (r : List Leg) (b : Bool) → is_halt x.action ≡ b → filter (λ leg. is_halt leg.action) (x ∷ r) ≡ cond b (x ∷ filter (λ leg. is_halt leg.action) r) (filter (λ leg. is_halt leg.action) r)
filter_at x r b e = ap (λ c. cond c (x ∷ filter (λ leg. is_halt leg.action) r) (filter (λ leg. is_halt leg.action) r)) e

head_there : (net : Net) (leg : Leg) (from : StationId) → tail_of net leg ≡ Some from → (to : StationId) × (head_of net leg ≡ Some to)
head_there net leg from e = by (slice_get net.tracks leg.track.0) refl
  where
    by : (o : Option Track) → slice_get net.tracks leg.track.0 ≡ o → (to : StationId) × (head_of net leg ≡ Some to)
    by None n = let f : option_map (λ (t : Track). t.tail) None ≡ Some from = subst (λ o. option_map (λ (t : Track). t.tail) o ≡ Some from) n e in cc
    by (Some t) n = (t.head, ap (option_map (λ (t : Track). t.head)) n)

none_some : (o : Option ℕ) (n : ℕ) → o ≡ None → o ≡ Some n → ⊥
none_some o n e f = cc

module _ (net : Net) (path : Path) where
  -- what is right there for the action, and the stops that it leaves
  abbrev Rest : ℕ → Leg → List Leg → Type 0
  Rest done x r = FitsAction net path done x x.action × (done_after x.action done ≤ length path.stops) × AllZip (MeetsStop net path.kind) (filter (λ leg. is_halt leg.action) r) (drop (done_after x.action done) path.stops)

  act : (done : ℕ) (x : Leg) (r : List Leg) (a : Action) → x.action ≡ a → is_finish x.action ≡ false → done ≤ length path.stops
      → AllZip (MeetsStop net path.kind) (filter (λ leg. is_halt leg.action) (x ∷ r)) (drop done path.stops) → IsAllowedWait path.wait_max x.action → Rest done x r
  act done x r Pass e n l z w =
      let z2 : AllZip (MeetsStop net path.kind) (filter (λ leg. is_halt leg.action) r) (drop done path.stops) = subst (λ ls. AllZip (MeetsStop net path.kind) ls (drop done path.stops)) (filter_at x r false (ap is_halt e)) z in
      subst (λ b. FitsAction net path done x b × (done_after b done ≤ length path.stops) × AllZip (MeetsStop net path.kind) (filter (λ leg. is_halt leg.action) r) (drop (done_after b done) path.stops)) (sym e) (tt, l, z2)
  act done x r (Halt d) e n l z w =
      let z2 : AllZip (MeetsStop net path.kind) (x ∷ filter (λ leg. is_halt leg.action) r) (drop done path.stops) = subst (λ ls. AllZip (MeetsStop net path.kind) ls (drop done path.stops)) (filter_at x r true (ap is_halt e)) z in
      let s = stop_split (MeetsStop net path.kind x) (MeetsStop net path.kind) x (filter (λ leg. is_halt leg.action) r) path.stops done (λ _ h. h) z2 in
      subst (λ b. FitsAction net path done x b × (done_after b done ≤ length path.stops) × AllZip (MeetsStop net path.kind) (filter (λ leg. is_halt leg.action) r) (drop (done_after b done) path.stops)) (sym e) (s.0, s.2, s.1)
  act done x r (Wait d) e n l z w =
      let z2 : AllZip (MeetsStop net path.kind) (filter (λ leg. is_halt leg.action) r) (drop done path.stops) = subst (λ ls. AllZip (MeetsStop net path.kind) ls (drop done path.stops)) (filter_at x r false (ap is_halt e)) z in
      let w2 : IsAllowedWait path.wait_max (Wait d) = subst (λ b. IsAllowedWait path.wait_max b) e w in
      subst (λ b. FitsAction net path done x b × (done_after b done ≤ length path.stops) × AllZip (MeetsStop net path.kind) (filter (λ leg. is_halt leg.action) r) (drop (done_after b done) path.stops)) (sym e) (w2, l, z2)
  act done x r Finish e n l z w = let f = ap is_finish e in absurd (true≢false (sym f ∙ n))

  -- the legs of a walk from a state on are a run
  pub rest_from : (x : Leg) (r : List Leg) (s : State) → LeavesAs net s x → s.done ≤ length path.stops → IsTail net path (drop s.done path.stops) (x ∷ r) → Runs net path s (x ∷ r)
  rest_from x [] s leaves few h =
      let e : x.action ≡ Finish = h.end.finish in
      let z : AllZip (MeetsStop net path.kind) [] (drop s.done path.stops) = subst (λ ls. AllZip (MeetsStop net path.kind) ls (drop s.done path.stops)) (filter_at x [] false (ap is_halt e)) h.stops in (
        record {
          place = leaves.place;
          time = leaves.time;
          mode = leaves.mode;
          may_use = all_head (λ (leg : Leg). MayUse net leg.track path.kind) x [] h.may_use;
          action = subst (λ a. FitsAction net path s.done x a) (sym e) (stops_over (MeetsStop net path.kind) path.stops s.done few z, h.end);
        },
        inl (e, refl),
      )
  rest_from x (y ∷ r) s leaves few h =
      let next = adjacent_head (IsNext net path.kind) x y r h.goes_on in
      let to = head_there net x s.station leaves.place in
      let a = act s.done x (y ∷ r) x.action refl (finishes_head x y r h.finishes_last) few h.stops (all_head (λ (leg : Leg). IsAllowedWait path.wait_max leg.action) x (y ∷ r) h.waits) in (
        record {
          place = leaves.place;
          time = leaves.time;
          mode = leaves.mode;
          may_use = all_head (λ (leg : Leg). MayUse net leg.track path.kind) x (y ∷ r) h.may_use;
          action = a.0;
        },
        inr (
          record { station = to.0; minute = y.depart; halted = y.from_halt; done = done_after x.action s.done },
          record { place = to.1; time = next.time; mode = next.mode; done = refl },
          rest_from y r (record { station = to.0; minute = y.depart; halted = y.from_halt; done = done_after x.action s.done })
              (record { place = next.place ∙ to.1; time = refl; mode = refl }) a.1
              (record {
                may_use = all_tail (λ (leg : Leg). MayUse net leg.track path.kind) x (y ∷ r) h.may_use;
                goes_on = adjacent_tail (IsNext net path.kind) x (y ∷ r) h.goes_on;
                stops = a.2;
                waits = all_tail (λ (leg : Leg). IsAllowedWait path.wait_max leg.action) x (y ∷ r) h.waits;
                end = subst (λ o. IsSomeAnd o (IsEnd net path)) (last_suc x y r) h.end;
                finishes_last = finishes_tail x (y ∷ r) h.finishes_last;
              }),
        ),
      )

  -- and back
  wait_ok : (done : ℕ) (x : Leg) (a : Action) → FitsAction net path done x a → IsAllowedWait path.wait_max a
  wait_ok done x Pass h = tt
  wait_ok done x (Halt d) h = tt
  wait_ok done x (Wait d) h = h
  wait_ok done x Finish h = tt

  pub not_finish : (x : Leg) (n : ℕ) → next_depart_of net path.kind x ≡ Some n → (a : Action) → x.action ≡ a → is_finish x.action ≡ false
  not_finish x n e Pass f = ap is_finish f
  not_finish x n e (Halt d) f = ap is_finish f
  not_finish x n e (Wait d) f = ap is_finish f
  not_finish x n e Finish f =
      let none : next_depart_of net path.kind x ≡ None = ap (λ (a : Action). after_action a (arrival_of net path.kind x)) f in
      absurd (none_some (next_depart_of net path.kind x) n none e)

  stops_back : (done : ℕ) (x : Leg) (r : List Leg) (a : Action) → x.action ≡ a → FitsAction net path done x a
      → AllZip (MeetsStop net path.kind) (filter (λ leg. is_halt leg.action) r) (drop (done_after a done) path.stops) → is_finish x.action ≡ false
      → AllZip (MeetsStop net path.kind) (filter (λ leg. is_halt leg.action) (x ∷ r)) (drop done path.stops)
  stops_back done x r Pass e f z n = subst (λ ls. AllZip (MeetsStop net path.kind) ls (drop done path.stops)) (sym (filter_at x r false (ap is_halt e))) z
  stops_back done x r (Halt d) e f z n = subst (λ ls. AllZip (MeetsStop net path.kind) ls (drop done path.stops)) (sym (filter_at x r true (ap is_halt e)))
      (stop_join (MeetsStop net path.kind) x (filter (λ leg. is_halt leg.action) r) path.stops done f z)
  stops_back done x r (Wait d) e f z n = subst (λ ls. AllZip (MeetsStop net path.kind) ls (drop done path.stops)) (sym (filter_at x r false (ap is_halt e))) z
  stops_back done x r Finish e f z n = absurd (true≢false (sym (ap is_finish e) ∙ n))

  one_tail : (x : Leg) (s : State) → IsMove net path s x → x.action ≡ Finish → IsTail net path (drop s.done path.stops) (x ∷ [])
  one_tail x s m e =
      let f : FitsAction net path s.done x Finish = subst (λ a. FitsAction net path s.done x a) e m.action in
      record {
        may_use = All-cons (λ (leg : Leg). MayUse net leg.track path.kind) x [] m.may_use (λ k d l. absurd (omega arith));
        goes_on = λ k d l. absurd (omega arith);
        stops = subst (λ ls. AllZip (MeetsStop net path.kind) ls (drop s.done path.stops)) (sym (filter_at x [] false (ap is_halt e))) (over_stops (MeetsStop net path.kind) path.stops s.done f.0);
        waits = All-cons (λ (leg : Leg). IsAllowedWait path.wait_max leg.action) x [] (wait_ok s.done x x.action m.action) (λ k d l. absurd (omega arith));
        end = f.1;
        finishes_last = λ k l. absurd (omega arith);
      }

  pub tail_from : (x : Leg) (r : List Leg) (s : State) → Runs net path s (x ∷ r) → IsTail net path (drop s.done path.stops) (x ∷ r)
  tail_from x [] s (m, inl h) = one_tail x s m h.0
  tail_from x [] s (m, inr h) = absurd h.2
  tail_from x (y ∷ r) s (m, inl h) = let e = h.1 in cc
  tail_from x (y ∷ r) s (m, inr h) =
      let t = tail_from y r h.0 h.2 in
      let after = h.1 in
      let n = not_finish x h.0.minute after.time x.action refl in
      record {
        may_use = All-cons (λ (leg : Leg). MayUse net leg.track path.kind) x (y ∷ r) m.may_use t.may_use;
        goes_on = adjacent_cons (IsNext net path.kind) x y r
            (record { place = h.2.0.place ∙ sym after.place; time = after.time ∙ ap Some (sym h.2.0.time); mode = h.2.0.mode ∙ after.mode }) t.goes_on;
        stops = stops_back s.done x (y ∷ r) x.action refl m.action (subst (λ i. AllZip (MeetsStop net path.kind) (filter (λ leg. is_halt leg.action) (y ∷ r)) (drop i path.stops)) after.done t.stops) n;
        waits = All-cons (λ (leg : Leg). IsAllowedWait path.wait_max leg.action) x (y ∷ r) (wait_ok s.done x x.action m.action) t.waits;
        end = subst (λ o. IsSomeAnd o (IsEnd net path)) (sym (last_suc x y r)) t.end;
        finishes_last = finishes_cons x (y ∷ r) n t.finishes_last;
      }

  -- a walk is a run from the start state of its departure
  pub rest_of_walk : (legs : List Leg) → IsWalk net path legs → IsFromTo path.depart.from path.depart.to (first_departure legs) × Runs net path (start_state path (first_departure legs)) legs
  rest_of_walk [] w = absurd w.start
  rest_of_walk (x ∷ r) w = (
    w.start.window,
    rest_from x r (start_state path x.depart) (record { place = w.start.origin; time = refl; mode = w.start.halted }) (zero-le)
        (record { may_use = w.may_use; goes_on = w.goes_on; stops = w.stops; waits = w.waits; end = w.end; finishes_last = w.finishes_last }),
  )

  pub walk_of_rest : (legs : List Leg) (d : ℕ) → IsFromTo path.depart.from path.depart.to d → Runs net path (start_state path d) legs → IsWalk net path legs
  walk_of_rest [] d within h = absurd h
  walk_of_rest (x ∷ r) d within h =
      let t = tail_from x r (start_state path d) h in
      record {
        start = record { origin = h.0.place; halted = h.0.mode; window = subst (λ i. IsFromTo path.depart.from path.depart.to i) (sym h.0.time) within };
        may_use = t.may_use;
        goes_on = t.goes_on;
        stops = t.stops;
        waits = t.waits;
        end = t.end;
        finishes_last = t.finishes_last;
      }
