-- Who runs on from a state leaves its station before the deadline, and deadlines that no pass over the tracks changes are right.
use Rattle.std.proofs.Common.{◌≡◌, ℕ, zero, suc, ◌+◌, ◌-◌, ◌||◌, true≢false, ◌≤◌, ◌<◌, ◌⊎◌, inl, inr, Bool, true, false, not, cond, List, [], ◌∷◌, length, get_or, set, length-set, get_or-set_same, get_or-set_other, replicate, max, Option, None, Some, nat_eq, eq-eqb, slice_get, refl, sym, ap, ◌∙◌, subst, arith}
use Rattle.std.specs.Option.{option_map}
use Rattle.std.proofs.lemmas.Bool.{cases_eq, cases_lt}
use Rattle.std.proofs.lemmas.List.{length-replicate, get_or-replicate}
use Rattle.std.proofs.lemmas.Option.{slice_get_within, get_or_from_slice_get}
use Rattle.optra_network.specs.Net.{Net, IsProper, minutes_by, times_of}
use Rattle.optra_network.specs.declared.StationId.{StationId}
use Rattle.optra_network.specs.declared.TrackId.{TrackId}
use Rattle.optra_network.specs.declared.Track.{Track}
use Rattle.optra_network.specs.declared.Times.{Times}
use Rattle.optra_network.specs.declared.TypeId.{TypeId}
use Rattle.optra_bid.specs.Specs.{Path, IsWindow}
use Rattle.optra_walk.specs.declared.Action.{Action}
use Rattle.optra_walk.specs.declared.Action.TheVariants.{Pass, Halt, Wait, Finish}
use Rattle.optra_walk.specs.declared.Leg.{Leg}
use Rattle.optra_walk.specs.Legs.{is_pass, arrival_of, dwell_of, after_action, next_depart_of}
use Rattle.optra_walk.specs.Walks.{MeetsStop, head_of}
use Rattle.optra_bid.specs.declared.Stop.{Stop}
use Rattle.optra_walk.specs.declared.state.State.{State}
use Rattle.optra_walk.proofs.ListLemmas.{none_there}
use Rattle.optra_graph.specs.declared.deadlines.Target.{Target}
use Rattle.optra_graph.specs.Deadlines.{AreBounded, AreDeadlines, AreStopping, IsLeftTooLate, IsTooLate, end_of, limit_of, target_of}
use Rattle.optra_walk.specs.Moves.{FitsAction, IsAfter, IsMove, Runs, done_after}
use Rattle.optra_graph.proofs.HorizonLemmas.{within_at}
use Rattle.optra_graph.proofs.StepLemmas.{some_same, stop_there}
use Rattle.optra_graph.proofs.WayLemmas.{run_within}

-- a leg arrives after its running time
arrival_run : (net : Net) (kind : TypeId) (leg : Leg) (n : ℕ) → arrival_of net kind leg ≡ Some n
    → (run : ℕ) × (option_map (minutes_by leg.from_halt (not (is_pass leg.action))) (times_of net leg.track kind) ≡ Some run) × (leg.depart + run ≡ n)
arrival_run net kind leg n e = by (times_of net leg.track kind) e
  where
    by : (o : Option Times) → option_map (λ times. leg.depart + minutes_by leg.from_halt (not (is_pass leg.action)) times) o ≡ Some n
        → (run : ℕ) × (option_map (minutes_by leg.from_halt (not (is_pass leg.action))) o ≡ Some run) × (leg.depart + run ≡ n)
    by None e = cc
    by (Some times) e = let s : leg.depart + minutes_by leg.from_halt (not (is_pass leg.action)) times ≡ n = cc in (minutes_by leg.from_halt (not (is_pass leg.action)) times, refl, s)

-- the next departure is not before the arrival
next_arrival : (net : Net) (kind : TypeId) (leg : Leg) (n : ℕ) → next_depart_of net kind leg ≡ Some n → (m : ℕ) × (arrival_of net kind leg ≡ Some m) × (m ≤ n)
next_arrival net kind leg n e = by (arrival_of net kind leg) leg.action e
  where
    by : (o : Option ℕ) (a : Action) → after_action a o ≡ Some n → (m : ℕ) × (o ≡ Some m) × (m ≤ n)
    by None Pass e = cc
    by None (Halt d) e = cc
    by None (Wait d) e = cc
    by None Finish e = cc
    by (Some m) Pass e = let s : m ≡ n = cc in (m, refl, omega arith)
    by (Some m) (Halt d) e = let s : m + d ≡ n = cc in (m, refl, omega arith)
    by (Some m) (Wait d) e = let s : m + d ≡ n = cc in (m, refl, omega arith)
    by (Some m) Finish e = cc

module _ (net : Net) (path : Path) (target : Target) (deadlines : List ℕ) (h : AreDeadlines net path target deadlines) where
  abbrev deadline_at : StationId → ℕ
  deadline_at station = get_or deadlines station.0 0

  -- to the target one may come until its time is over
  limit_there : target.before ≤ limit_of target deadlines target.station
  limit_there = by (nat_eq target.station.0 target.station.0) (eq-eqb target.station.0 target.station.0 refl)
    where
      by : (b : Bool) → b ≡ true → target.before ≤ cond b (max (deadline_at target.station) target.before) (deadline_at target.station)
      by true e = omega arith
      by false e = absurd (true≢false (sym e))

  -- who leaves in time has arrived in time
  limit_least : (station : StationId) → deadline_at station ≤ limit_of target deadlines station
  limit_least station = by (nat_eq station.0 target.station.0)
    where
      by : (b : Bool) → deadline_at station ≤ cond b (max (deadline_at station) target.before) (deadline_at station)
      by true = omega arith
      by false = omega arith

  -- who runs on to a state in time is in time
  pub timely_on : (s after : State) (leg : Leg) → IsMove net path s leg → IsAfter net path s leg after → after.minute < deadline_at after.station → s.minute < deadline_at s.station
  timely_on s after leg m a on =
      let w = next_arrival net path.kind leg after.minute a.time in
      let run = arrival_run net path.kind leg w.0 w.1 in
      let late = h.holds leg.track s.station m.place after.station leg.from_halt (not (is_pass leg.action)) run.0 a.place run.1 in
      let time = m.time in
      omega (arith, limit_least after.station, on, late, w.2, run.2, time)

  -- who comes to the target in time is in time
  pub timely_there : (s : State) (leg : Leg) (n : ℕ) → IsMove net path s leg → head_of net leg ≡ Some target.station → arrival_of net path.kind leg ≡ Some n → n < target.before → s.minute < deadline_at s.station
  timely_there s leg n m place arrival l =
      let run = arrival_run net path.kind leg n arrival in
      let late = h.holds leg.track s.station m.place target.station leg.from_halt (not (is_pass leg.action)) run.0 place run.1 in
      let time = m.time in
      omega (arith, limit_there, late, l, run.2, time)

-- who runs on to the end departs before the deadline
pub runs_timely : (net : Net) (path : Path) (deadlines : List ℕ) → AreDeadlines net path (end_of path) deadlines → (s : State) (legs : List Leg) → Runs net path s legs → s.minute < get_or deadlines s.station.0 0
runs_timely net path deadlines h s [] r = absurd r
runs_timely net path deadlines h s (leg ∷ rest) (m, inl f) =
    let fits : FitsAction net path s.done leg Finish = subst (λ a. FitsAction net path s.done leg a) f.0 m.action in
    let w = within_at (arrival_of net path.kind leg) path.arrive.from path.arrive.to fits.1.time in
    timely_there net path (end_of path) deadlines h s leg w.0 m fits.1.place w.1 (let u = w.2 in omega arith)
runs_timely net path deadlines h s (leg ∷ rest) (m, inr f) =
    timely_on net path (end_of path) deadlines h s f.0 leg m f.1 (runs_timely net path deadlines h f.0 rest f.2)

track_there : (net : Net) (track : TrackId) (s : StationId) → option_map (λ (t : Track). t.tail) (slice_get net.tracks track.0) ≡ Some s → track.0 < length net.tracks
track_there net track s e = by (slice_get net.tracks track.0) refl e
  where
    by : (o : Option Track) → slice_get net.tracks track.0 ≡ o → option_map (λ (t : Track). t.tail) o ≡ Some s → track.0 < length net.tracks
    by None m f = cc
    by (Some t) m f = slice_get_within net.tracks track.0 t m

tail_within : (net : Net) (n : ℕ) (s : StationId) → IsProper net → option_map (λ (t : Track). t.tail) (slice_get net.tracks n) ≡ Some s → s.0 < length net.stations
tail_within net n s proper e = by (slice_get net.tracks n) refl e
  where
    by : (o : Option Track) → slice_get net.tracks n ≡ o → option_map (λ (t : Track). t.tail) o ≡ Some s → s.0 < length net.stations
    by None m f = cc
    by (Some t) m f =
        let l = slice_get_within net.tracks n t m in
        let ends = proper.built.ends n t l in
        let same : get_or net.tracks n t ≡ t = get_or_from_slice_get net.tracks n t t m in
        let e : t.tail ≡ s = cc in
        let below = ends.0 in
        omega (arith, ap (λ (t : Track). t.tail.0) same, ap (λ (s : StationId). s.0) e, below)

few_same : (n k x m : ℕ) → x ≤ m → get_or (replicate n x) k 0 ≤ m
few_same zero k x m l = omega arith
few_same (suc n) zero x m l = l
few_same (suc n) (suc k) x m l = few_same n k x m l

-- ---- deadlines on the way

pub bounded_first : (net : Net) (path : Path) (target : Target) (first : ℕ) (deadlines : List ℕ) → IsProper net → IsWindow path.arrive → target.before ≤ path.arrive.to + 1 → first ≤ path.arrive.to → deadlines ≡ replicate (length net.stations) first → AreBounded net path target deadlines
bounded_first net path target first deadlines proper arrive before l e = subst (AreBounded net path target) (sym e) (record {
  proper = proper;
  count = length-replicate (length net.stations) first;
  arrive = arrive;
  before = before;
  most = λ k. few_same (length net.stations) k first path.arrive.to l;
})

pub bounded_set : (net : Net) (path : Path) (target : Target) (deadlines : List ℕ) (place deadline : ℕ) → place < length deadlines → deadline ≤ path.arrive.to → AreBounded net path target deadlines → AreBounded net path target (set deadlines place deadline)
bounded_set net path target deadlines place deadline there l h = record {
  proper = h.proper;
  count = length-set deadlines place deadline ∙ h.count;
  arrive = h.arrive;
  before = h.before;
  most = λ k. by k (cases_eq k place);
}
  where
    by : (k : ℕ) → (k ≡ place) ⊎ (k ≡ place → ⊥) → get_or (set deadlines place deadline) k 0 ≤ path.arrive.to
    by k (inl e) = let f = ap (λ i. get_or (set deadlines place deadline) i 0) e in let s = get_or-set_same deadlines place deadline 0 there in omega arith
    by k (inr n) = let f = get_or-set_other deadlines place k deadline 0 n in let m = h.most k in omega arith

-- it is too late to arrive after the window
pub limit_under : (net : Net) (path : Path) (target : Target) (deadlines : List ℕ) (station : StationId) → AreBounded net path target deadlines → limit_of target deadlines station ≤ path.arrive.to + 1
limit_under net path target deadlines station h = by (nat_eq station.0 target.station.0)
  where
    by : (b : Bool) → cond b (max (get_or deadlines station.0 0) target.before) (get_or deadlines station.0 0) ≤ path.arrive.to + 1
    by true = let m = h.most station.0 in let b = h.before in omega arith
    by false = let m = h.most station.0 in omega arith

-- it is too late at the deadline of the tail where it is at a minute no later
pub left_later : (net : Net) (path : Path) (target : Target) (deadlines : List ℕ) (track : TrackId) (tail : StationId) (deadline : ℕ) → option_map (λ (t : Track). t.tail) (slice_get net.tracks track.0) ≡ Some tail
    → deadline ≤ get_or deadlines tail.0 0 → IsTooLate net path target deadlines deadline track → IsLeftTooLate net path target deadlines track
left_later net path target deadlines track tail deadline there l late station at head a b run e time =
    let w = late head a b run e time in
    let same : tail ≡ station = some_same (option_map (λ (t : Track). t.tail) (slice_get net.tracks track.0)) tail station there at in
    let f = ap (λ (s : StationId). get_or deadlines s.0 0) same in
    omega (arith, l, w, f)

-- one more track that keeps the deadline of its tail
pub left_more : (net : Net) (path : Path) (target : Target) (deadlines : List ℕ) (n : ℕ) → IsLeftTooLate net path target deadlines (record { 0 = n }) → ((t : TrackId) → t.0 < n → IsLeftTooLate net path target deadlines t)
    → (t : TrackId) → t.0 < n + 1 → IsLeftTooLate net path target deadlines t
left_more net path target deadlines n here before t l = by (cases_lt t.0 n)
  where
    by : (t.0 < n) ⊎ (n ≤ t.0) → IsLeftTooLate net path target deadlines t
    by (inl m) = before t m
    by (inr m) = let e : n ≡ t.0 = omega arith in let same : record { 0 = n } ≡ t = (λ i. record { 0 = e i }) in subst (IsLeftTooLate net path target deadlines) same here

-- the same from the last track down
pub left_below : (net : Net) (path : Path) (target : Target) (deadlines : List ℕ) (count passed : ℕ) → count ≡ length net.tracks → IsLeftTooLate net path target deadlines (record { 0 = count - 1 - passed })
    → ((t : TrackId) → t.0 < length net.tracks → length net.tracks ≤ t.0 + passed → IsLeftTooLate net path target deadlines t)
    → (t : TrackId) → t.0 < length net.tracks → length net.tracks ≤ t.0 + (passed + 1) → IsLeftTooLate net path target deadlines t
left_below net path target deadlines count passed n here before t l m = by (cases_lt (t.0 + passed) (length net.tracks))
  where
    by : (t.0 + passed < length net.tracks) ⊎ (length net.tracks ≤ t.0 + passed) → IsLeftTooLate net path target deadlines t
    by (inl a) = let e : count - 1 - passed ≡ t.0 = omega arith in let same : record { 0 = count - 1 - passed } ≡ t = (λ i. record { 0 = e i }) in subst (IsLeftTooLate net path target deadlines) same here
    by (inr a) = before t l a

-- neither of two has changed
pub neither : (a b : Bool) → (a || b) ≡ false → (a ≡ false) × (b ≡ false)
neither true b e = absurd (true≢false e)
neither false b e = (refl, e)

pub all_left : (net : Net) (path : Path) (target : Target) (deadlines : List ℕ) (n : ℕ) → length net.tracks ≤ n → AreBounded net path target deadlines → ((t : TrackId) → t.0 < n → IsLeftTooLate net path target deadlines t) → AreDeadlines net path target deadlines
all_left net path target deadlines n l h late = record {
  proper = h.proper;
  count = h.count;
  arrive = h.arrive;
  before = h.before;
  most = h.most;
  holds = λ track station tail. let there = track_there net track station tail in late track (omega (arith, there, l)) station tail;
}

-- ---- all deadlines at the end of the arrival window

limit_most : (path : Path) (target : Target) (n : ℕ) (head : StationId) → target.before ≤ path.arrive.to + 1 → limit_of target (replicate n path.arrive.to) head ≤ path.arrive.to + 1
limit_most path target n head before = by (nat_eq head.0 target.station.0)
  where
    by : (b : Bool) → cond b (max (get_or (replicate n path.arrive.to) head.0 0) target.before) (get_or (replicate n path.arrive.to) head.0 0) ≤ path.arrive.to + 1
    by true = let f = few_same n head.0 path.arrive.to path.arrive.to (omega arith) in omega (arith, f)
    by false = let f = few_same n head.0 path.arrive.to path.arrive.to (omega arith) in omega (arith, f)

pub first_deadlines : (net : Net) (path : Path) (target : Target) (deadlines : List ℕ) → IsProper net → IsWindow path.arrive → target.before ≤ path.arrive.to + 1 → deadlines ≡ replicate (length net.stations) path.arrive.to → AreDeadlines net path target deadlines
first_deadlines net path target deadlines proper arrive before e = subst (AreDeadlines net path target) (sym e) (record {
  proper = proper;
  count = length-replicate (length net.stations) path.arrive.to;
  arrive = arrive;
  before = before;
  most = λ k. few_same (length net.stations) k path.arrive.to path.arrive.to (omega arith);
  holds = λ track s tail head a b run at time.
      let r = run_within net track path.kind a b run proper time in
      let there = tail_within net track.0 s proper tail in
      let f = get_or-replicate (length net.stations) s.0 path.arrive.to 0 there in
      let l = limit_most path target (length net.stations) head before in
      omega (arith, r.0, f, l);
})

-- ---- while stops are left

-- what a leg does with stops left: it halts at a stop, or stays at so many stops
done_by : (net : Net) (path : Path) (s after : State) (leg : Leg) (a : Action) → leg.action ≡ a → next_depart_of net path.kind leg ≡ Some after.minute → after.done ≡ done_after a s.done → FitsAction net path s.done leg a
    → (after.done ≡ s.done) ⊎ ((after.done ≡ s.done + 1) × ((stop : Stop) × (slice_get path.stops s.done ≡ Some stop) × MeetsStop net path.kind leg stop))
done_by net path s after leg Pass e t d f = inl d
done_by net path s after leg (Halt n) e t d f = inr (d, stop_there (MeetsStop net path.kind leg) (slice_get path.stops s.done) f)
done_by net path s after leg (Wait n) e t d f = inl d
done_by net path s after leg Finish e t d f = inl d

-- a dwell is the time from the arrival to the next departure
arrival_dwell : (net : Net) (kind : TypeId) (leg : Leg) (n : ℕ) → next_depart_of net kind leg ≡ Some n → (m : ℕ) × (arrival_of net kind leg ≡ Some m) × (m + dwell_of leg.action ≡ n)
arrival_dwell net kind leg n e = by (arrival_of net kind leg) leg.action e
  where
    by : (o : Option ℕ) (a : Action) → after_action a o ≡ Some n → (m : ℕ) × (o ≡ Some m) × (m + dwell_of a ≡ n)
    by None Pass e = cc
    by None (Halt d) e = cc
    by None (Wait d) e = cc
    by None Finish e = cc
    by (Some m) Pass e = let s : m ≡ n = cc in (m, refl, omega arith)
    by (Some m) (Halt d) e = let s : m + d ≡ n = cc in (m, refl, s)
    by (Some m) (Wait d) e = let s : m + d ≡ n = cc in (m, refl, s)
    by (Some m) Finish e = cc

module _ (net : Net) (path : Path) (deadlines stopping : List ℕ) (h : AreDeadlines net path (end_of path) deadlines) (stop : Stop)
    (last : slice_get path.stops (length path.stops - 1) ≡ Some stop) (k : AreDeadlines net path (target_of stop deadlines) stopping) where
  -- who halts at the last stop and runs on is in time
  stops_timely : (s after : State) (leg : Leg) (rest : List Leg) → IsMove net path s leg → IsAfter net path s leg after → Runs net path after rest → slice_get path.stops s.done ≡ Some stop → MeetsStop net path.kind leg stop
      → s.minute < get_or stopping s.station.0 0
  stops_timely s after leg rest m a r at meets =
      let on = runs_timely net path deadlines h after rest r in
      let w = within_at (arrival_of net path.kind leg) stop.arrive.from stop.arrive.to meets.time in
      let v = arrival_dwell net path.kind leg after.minute a.time in
      let same = some_same (arrival_of net path.kind leg) w.0 v.0 w.1 v.1 in
      let here : after.station ≡ stop.station = some_same (head_of net leg) after.station stop.station a.place meets.place in
      let e = ap (λ (x : StationId). get_or deadlines x.0 0) here in
      let dwell = meets.dwell.0 in
      timely_there net path (target_of stop deadlines) stopping k s leg w.0 m meets.place w.1 (omega (arith, on, w.2, v.2, same, e, dwell))

  pub stopping_timely : (s : State) (legs : List Leg) → s.done < length path.stops → Runs net path s legs → s.minute < get_or stopping s.station.0 0
  stopping_timely s [] more r = absurd r
  stopping_timely s (leg ∷ rest) more (m, inl f) =
      let fits : FitsAction net path s.done leg Finish = subst (λ a. FitsAction net path s.done leg a) f.0 m.action in
      let e = fits.0 in
      absurd (omega (arith, e, more))
  stopping_timely s (leg ∷ rest) more (m, inr f) =
      let on = λ (l : f.0.done < length path.stops). timely_on net path (target_of stop deadlines) stopping k s f.0 leg m f.1 (stopping_timely f.0 rest l f.2) in
      by on (done_by net path s f.0 leg leg.action refl f.1.time f.1.done m.action)
    where
      by : (f.0.done < length path.stops → s.minute < get_or stopping s.station.0 0)
          → (f.0.done ≡ s.done) ⊎ ((f.0.done ≡ s.done + 1) × ((x : Stop) × (slice_get path.stops s.done ≡ Some x) × MeetsStop net path.kind leg x)) → s.minute < get_or stopping s.station.0 0
      by on (inl e) = on (omega (arith, e, more))
      by on (inr (e, (x, at, meets))) = last_or (cases_lt (s.done + 1) (length path.stops))
        where
          last_or : (s.done + 1 < length path.stops) ⊎ (length path.stops ≤ s.done + 1) → s.minute < get_or stopping s.station.0 0
          last_or (inl l) = on (omega (arith, e, l))
          last_or (inr l) =
              let n : length path.stops - 1 ≡ s.done = omega (arith, more, l) in
              let there : slice_get path.stops s.done ≡ Some stop = subst (λ i. slice_get path.stops i ≡ Some stop) n last in
              let same : x ≡ stop = some_same (slice_get path.stops s.done) x stop at there in
              stops_timely s f.0 leg rest m f.1 f.2 there (subst (MeetsStop net path.kind leg) same meets)

-- the deadlines for the last stop are those of states with stops left
pub stopping_from : (net : Net) (path : Path) (deadlines stopping : List ℕ) → AreDeadlines net path (end_of path) deadlines → (stop : Stop) → slice_get path.stops (length path.stops - 1) ≡ Some stop
    → (target : Target) → target ≡ target_of stop deadlines → AreDeadlines net path target stopping → AreStopping net path stopping
stopping_from net path deadlines stopping h stop last target e k =
    let there : AreDeadlines net path (target_of stop deadlines) stopping = subst (λ t. AreDeadlines net path t stopping) e k in
    record { count = k.count; holds = stopping_timely net path deadlines stopping h stop last there }

-- a path without stops has no state with stops left
pub stopping_none : (net : Net) (path : Path) (stopping : List ℕ) → length stopping ≡ length net.stations → slice_get path.stops (length path.stops - 1) ≡ None → AreStopping net path stopping
stopping_none net path stopping count none = record {
  count = count;
  holds = λ s legs more r. let l : length path.stops ≤ length path.stops - 1 = none_there path.stops (length path.stops - 1) none in absurd (omega (arith, l, more));
}
