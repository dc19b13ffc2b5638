-- Which states come into walks: those that are reached lead to such, and a state that is too late has no rest.
use Rattle.std.proofs.Common.{◌≡◌, ℕ, ◌+◌, ◌≤◌, ◌<◌, ◌⊎◌, ◌∙◌, inl, inr, Bool, false, not, sym, List, [], ◌∷◌, Option, None, Some, IsSomeAnd, slice_get, slice_index, refl, ap, subst, arith}
use Rattle.std.specs.Option.{option_map}
use Rattle.std.proofs.lemmas.Option.{slice_get_within}
use Rattle.optra_network.specs.Net.{Net, IsFromTo, times_of, minutes_by}
use Rattle.optra_network.specs.declared.StationId.{StationId}
use Rattle.optra_network.specs.declared.TrackId.{TrackId}
use Rattle.optra_network.specs.declared.TypeId.{TypeId}
use Rattle.optra_network.specs.declared.Track.{Track}
use Rattle.optra_network.specs.declared.Times.{Times}
use Rattle.optra_bid.specs.Specs.{Path}
use Rattle.optra_walk.specs.declared.Action.{Action}
use Rattle.optra_walk.specs.declared.Action.TheVariants.{Pass, Halt, Wait, Finish}
use Rattle.optra_walk.specs.declared.Leg.{Leg}
use Rattle.optra_walk.specs.Legs.{is_pass, arrival_of, next_depart_of, after_action}
use Rattle.optra_walk.specs.Walks.{tail_of, head_of}
use Rattle.optra_walk.specs.declared.state.State.{State}
use Rattle.optra_rests.specs.declared.reach.Reach.{Reach}
use Rattle.optra_rests.specs.Reaches.{from_origin, to_destination, IsReach, IsReached, IsInTime}
use Rattle.optra_rests.specs.declared.ways.Way.{Way}
use Rattle.optra_walk.specs.Moves.{FitsAction, IsMove, IsAfter, Runs, leg_by}
use Rattle.optra_rests.specs.Ways.{IsWay}

pub some_same : {X : Type 0} (x y : X) → Some x ≡ Some y → x ≡ y
some_same x y e = cc

pub track_there : (tracks : List Track) (n : ℕ) (s : StationId) → option_map (λ (t : Track). t.tail) (slice_get tracks n) ≡ Some s → (t : Track) × (slice_get tracks n ≡ Some t) × (t.tail ≡ s)
track_there tracks n s e = by (slice_get tracks n) refl e
  where
    by : (o : Option Track) → slice_get tracks n ≡ o → option_map (λ (t : Track). t.tail) o ≡ Some s → (t : Track) × (slice_get tracks n ≡ Some t) × (t.tail ≡ s)
    by None at f = cc
    by (Some t) at f = (t, at, cc)

pub head_is : (tracks : List Track) (n : ℕ) (s : StationId) (t : Track) → slice_get tracks n ≡ Some t → option_map (λ (t : Track). t.head) (slice_get tracks n) ≡ Some s → t.head ≡ s
head_is tracks n s t at e = cc

-- an arrival is a running time after the departure
pub ran : (net : Net) (kind : TypeId) (leg : Leg) (n : ℕ) → arrival_of net kind leg ≡ Some n
    → (times : Times) × (times_of net leg.track kind ≡ Some times) × (leg.depart + minutes_by leg.from_halt (not (is_pass leg.action)) times ≡ n)
ran net kind leg n e = by (times_of net leg.track kind) refl e
  where
    by : (o : Option Times) → times_of net leg.track kind ≡ o → option_map (λ times. leg.depart + minutes_by leg.from_halt (not (is_pass leg.action)) times) o ≡ Some n
        → (times : Times) × (times_of net leg.track kind ≡ Some times) × (leg.depart + minutes_by leg.from_halt (not (is_pass leg.action)) times ≡ n)
    by None at f = cc
    by (Some times) at f = (times, at, cc)

-- the next departure is not before the arrival
pub arrived : (net : Net) (kind : TypeId) (leg : Leg) (n : ℕ) → next_depart_of net kind leg ≡ Some n → (m : ℕ) × (arrival_of net kind leg ≡ Some m) × (m ≤ n)
arrived net kind leg n e = by (arrival_of net kind leg) leg.action refl e
  where
    by : (o : Option ℕ) (a : Action) → arrival_of net kind leg ≡ o → after_action a o ≡ Some n → (m : ℕ) × (arrival_of net kind leg ≡ Some m) × (m ≤ n)
    by None Pass at f = cc
    by None (Halt d) at f = cc
    by None (Wait d) at f = cc
    by None Finish at f = cc
    by (Some m) Pass at f = let s : m ≡ n = cc in (m, at, omega (arith, s))
    by (Some m) (Halt d) at f = let s : m + d ≡ n = cc in (m, at, omega (arith, s))
    by (Some m) (Wait d) at f = let s : m + d ≡ n = cc in (m, at, omega (arith, s))
    by (Some m) Finish at f = cc

pub arrival_within : (o : Option ℕ) (from to : ℕ) → IsSomeAnd o (IsFromTo from to) → (n : ℕ) × (o ≡ Some n) × (n ≤ to)
arrival_within None from to h = absurd h
arrival_within (Some n) from to h = (n, refl, h.1)

module _ (net : Net) (path : Path) (reach : Reach) (is : IsReach net path reach) where
  -- from a station to the next one along a leg
  ahead : (leg : Leg) (near far : StationId) (times : Times) (a b : Bool) → tail_of net leg ≡ Some near → head_of net leg ≡ Some far → times_of net leg.track path.kind ≡ Some times
      → (slice_index (from_origin reach) far.0 ≤ slice_index (from_origin reach) near.0 + minutes_by a b times)
      × (slice_index (to_destination reach) near.0 ≤ slice_index (to_destination reach) far.0 + minutes_by a b times)
  ahead leg near far times a b e f g =
      let t = track_there net.tracks leg.track.0 near e in
      let h = head_is net.tracks leg.track.0 far t.0 t.1 f in
      let l = slice_get_within net.tracks leg.track.0 t.0 t.1 in
      let m = minutes_by a b times in
      let from = is.behind.each 0 (omega arith) leg.track.0 l t.0 times a b t.1 g in
      let on = is.ahead.each 0 (omega arith) leg.track.0 l t.0 times a b t.1 g in
      let on_from = λ (x : StationId). slice_index (from_origin reach) x.0 in
      let on_to = λ (x : StationId). slice_index (to_destination reach) x.0 in (
        subst (λ x. on_from x ≤ on_from near + m) h (subst (λ x. on_from t.0.head ≤ on_from x + m) t.2 from),
        subst (λ x. on_to near ≤ on_to x + m) h (subst (λ x. on_to x ≤ on_to t.0.head + m) t.2 on),
      )

  pub reached_start : (s : State) → s.station ≡ path.origin → path.depart.from ≤ s.minute → IsReached path reach s
  reached_start s e l = let z = is.behind.first in let p = ap (λ (x : StationId). slice_index (from_origin reach) x.0) e in omega (arith, z, p, l)

  pub reached_after : (s after : State) (leg : Leg) → IsMove net path s leg → IsAfter net path s leg after → IsReached path reach s → IsReached path reach after
  reached_after s after leg move is_after h =
      let at = arrived net path.kind leg after.minute is_after.time in
      let t = ran net path.kind leg at.0 at.1 in
      let m = ahead leg s.station after.station t.0 leg.from_halt (not (is_pass leg.action)) move.place is_after.place t.1 in
      let d = move.time in
      let e = t.2 in
      let l = at.2 in
      let k = m.0 in
      omega (arith, h, k, d, e, l)

  pub rest_in_time : (s : State) (legs : List Leg) → Runs net path s legs → IsInTime path reach s
  rest_in_time s [] h = absurd h
  rest_in_time s (leg ∷ rest) (m, inl f) =
      let fits : FitsAction net path s.done leg Finish = subst (λ a. FitsAction net path s.done leg a) f.0 m.action in
      let at = arrival_within (arrival_of net path.kind leg) path.arrive.from path.arrive.to fits.1.time in
      let t = ran net path.kind leg at.0 at.1 in
      let k = ahead leg s.station path.destination t.0 leg.from_halt (not (is_pass leg.action)) m.place fits.1.place t.1 in
      let z = is.ahead.first in
      let d = m.time in
      let e = t.2 in
      let l = at.2 in
      let n = k.1 in
      omega (arith, z, d, e, l, n)
  rest_in_time s (leg ∷ rest) (m, inr f) =
      let i = rest_in_time f.0 rest f.2 in
      let at = arrived net path.kind leg f.0.minute f.1.time in
      let t = ran net path.kind leg at.0 at.1 in
      let k = ahead leg s.station f.0.station t.0 leg.from_halt (not (is_pass leg.action)) m.place f.1.place t.1 in
      let d = m.time in
      let e = t.2 in
      let l = at.2 in
      let n = k.1 in
      omega (arith, i, d, e, l, n)

  -- a leg by a way on which no walk may end in time has no rest
  pub late_leg : (s : State) (way : Way) (leg : Leg) (legs : List Leg) → IsWay net path s way → leg.track ≡ way.track
      → path.arrive.to < way.pass + slice_index (to_destination reach) way.head.0 → path.arrive.to < way.halt + slice_index (to_destination reach) way.head.0
      → Runs net path s (leg ∷ legs) → ⊥
  late_leg s way leg legs w on pass halt (m, goes) = by goes
    where
      arrives : (n : ℕ) → arrival_of net path.kind leg ≡ Some n → path.arrive.to < n + slice_index (to_destination reach) way.head.0
      arrives n e = by leg.action refl
        where
          same : (a : Action) → leg.action ≡ a → leg ≡ leg_by s way.track a
          same a e = λ i. record { track = on i; depart = m.time i; from_halt = m.mode i; action = e i }

          halts : (a : Action) → is_pass a ≡ false → leg.action ≡ a → n ≡ way.halt
          halts a h f = some_same n way.halt (sym e ∙ ap (arrival_of net path.kind) (same a f) ∙ ap (λ b. option_map (λ (times : Times). s.minute + minutes_by s.halted (not b) times) (times_of net way.track path.kind)) h ∙ w.halt)

          by : (a : Action) → leg.action ≡ a → path.arrive.to < n + slice_index (to_destination reach) way.head.0
          by Pass f = let k : n ≡ way.pass = some_same n way.pass (sym e ∙ ap (arrival_of net path.kind) (same Pass f) ∙ w.pass) in omega (arith, k, pass)
          by (Halt d) f = let k = halts (Halt d) refl f in omega (arith, k, halt)
          by (Wait d) f = let k = halts (Wait d) refl f in omega (arith, k, halt)
          by Finish f = let k = halts Finish refl f in omega (arith, k, halt)

      head : (x : StationId) → head_of net leg ≡ Some x → x ≡ way.head
      head x e = some_same x way.head (sym e ∙ ap (λ (t : TrackId). option_map (λ (t : Track). t.head) (slice_get net.tracks t.0)) on ∙ w.head)

      by : ((leg.action ≡ Finish) × (legs ≡ [])) ⊎ ((after : State) × IsAfter net path s leg after × Runs net path after legs) → ⊥
      by (inl f) =
          let fits : FitsAction net path s.done leg Finish = subst (λ a. FitsAction net path s.done leg a) f.0 m.action in
          let at = arrival_within (arrival_of net path.kind leg) path.arrive.from path.arrive.to fits.1.time in
          let l = arrives at.0 at.1 in
          let h = ap (λ (x : StationId). slice_index (to_destination reach) x.0) (head path.destination fits.1.place) in
          let z = is.ahead.first in
          let k = at.2 in
          omega (arith, l, h, z, k)
      by (inr f) =
          let i = rest_in_time f.0 legs f.2 in
          let at = arrived net path.kind leg f.0.minute f.1.time in
          let l = arrives at.0 at.1 in
          let h = ap (λ (x : StationId). slice_index (to_destination reach) x.0) (head f.0.station f.1.place) in
          let k = at.2 in
          omega (arith, i, l, h, k)
