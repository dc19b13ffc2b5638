-- There is time for what walks do: the stops that are done took theirs.
use Rattle.std.proofs.Common.{◌≡◌, ℕ, ◌+◌, ◌≤◌, ◌∙◌, Bool, not, sym, List, [], Option, None, Some, IsSomeAnd, slice_get, slice_index, slice_index_or, length, refl, ap, subst, arith}
use Rattle.std.proofs.lemmas.Option.{slice_get_within}
use Rattle.optra_network.specs.Net.{Net, times_of, minutes_by}
use Rattle.optra_network.specs.declared.StationId.{StationId}
use Rattle.optra_network.specs.declared.Times.{Times}
use Rattle.optra_bid.specs.Specs.{Path}
use Rattle.optra_bid.specs.declared.Stop.{Stop}
use Rattle.optra_walk.specs.declared.Action.{Action}
use Rattle.optra_walk.specs.declared.Action.TheVariants.{Pass, Halt, Wait, Finish}
use Rattle.optra_walk.specs.declared.Leg.{Leg}
use Rattle.optra_walk.specs.Legs.{is_pass, dwell_of, arrival_of, after_action}
use Rattle.optra_walk.specs.Walks.{tail_of, head_of, MeetsStop}
use Rattle.optra_walk.specs.declared.state.State.{State}
use Rattle.optra_rests.specs.declared.reach.Reach.{Reach}
use Rattle.optra_rests.specs.Reaches.{IsReach, WasTime, behind_of}
use Rattle.optra_walk.specs.Moves.{FitsAction, IsMove, IsAfter, done_after, start_state}
use Rattle.optra_rests.proofs.ReachLemmas.{track_there, head_is, ran, arrived}

some_same : {X : Type 0} (x y : X) → Some x ≡ Some y → x ≡ y
some_same x y e = cc

stop_there : (net : Net) (path : Path) (o : Option Stop) (leg : Leg) → IsSomeAnd o (MeetsStop net path.kind leg) → (stop : Stop) × (o ≡ Some stop) × MeetsStop net path.kind leg stop
stop_there net path None leg h = absurd h
stop_there net path (Some stop) leg h = (stop, refl, h)

module _ (net : Net) (path : Path) (reach : Reach) (is : IsReach net path reach) where
  abbrev level : ℕ → List ℕ
  level done = slice_index_or (behind_of reach) done []

  -- from a station to the next one along a leg, with so many stops done
  along : (done : ℕ) → done ≤ length path.stops → (leg : Leg) (near far : StationId) (times : Times) (a b : Bool) → tail_of net leg ≡ Some near → head_of net leg ≡ Some far
      → times_of net leg.track path.kind ≡ Some times → slice_index (level done) far.0 ≤ slice_index (level done) near.0 + minutes_by a b times
  along done few leg near far times a b e f g =
      let t = track_there net.tracks leg.track.0 near e in
      let h = head_is net.tracks leg.track.0 far t.0 t.1 f in
      let l = slice_get_within net.tracks leg.track.0 t.0 t.1 in
      let from = is.behind.each done few leg.track.0 l t.0 times a b t.1 g in
      let u = ap (λ (s : StationId). slice_index (level done) s.0) t.2 in
      let v = ap (λ (s : StationId). slice_index (level done) s.0) h in
      omega (arith, from, u, v)

  -- a walk that starts has done no stop
  pub time_start : (minute : ℕ) → path.depart.from ≤ minute → WasTime path reach (start_state path minute)
  time_start minute l = let z = is.behind.first in omega (arith, z, l)

  -- a walk that goes on has time for it
  pub time_after : (s after : State) (leg : Leg) → s.done ≤ length path.stops → IsMove net path s leg → IsAfter net path s leg after → WasTime path reach s → WasTime path reach after
  time_after s after leg few move is_after time = by leg.action refl
    where
      at : (k : ℕ) × (arrival_of net path.kind leg ≡ Some k) × (k ≤ after.minute)
      at = arrived net path.kind leg after.minute is_after.time

      t : (times : Times) × (times_of net leg.track path.kind ≡ Some times) × (leg.depart + minutes_by leg.from_halt (not (is_pass leg.action)) times ≡ at.0)
      t = ran net path.kind leg at.0 at.1

      -- on arrival, with the stops done that were done
      here : path.depart.from + slice_index (level s.done) after.station.0 ≤ at.0
      here =
          let k = along s.done few leg s.station after.station t.0 leg.from_halt (not (is_pass leg.action)) move.place is_after.place t.1 in
          let d = move.time in
          let r = t.2 in
          omega (arith, k, d, r, time)

      same : (a : Action) → leg.action ≡ a → done_after a s.done ≡ s.done → WasTime path reach after
      same a e kept =
          let done : after.done ≡ s.done = is_after.done ∙ ap (λ x. done_after x s.done) e ∙ kept in
          let l = at.2 in
          subst (λ d. path.depart.from + slice_index (level d) after.station.0 ≤ after.minute) (sym done) (omega (arith, here, l))

      halt : (d : ℕ) → leg.action ≡ Halt d → WasTime path reach after
      halt d e =
          let fits : FitsAction net path s.done leg (Halt d) = subst (λ a. FitsAction net path s.done leg a) e move.action in
          let stop = stop_there net path (slice_get path.stops s.done) leg fits in
          let within = slice_get_within path.stops s.done stop.0 stop.1 in
          let done : after.done ≡ s.done + 1 = is_after.done ∙ ap (λ x. done_after x s.done) e in
          let one = ap (λ (x : StationId). slice_index (level s.done) x.0) (some_same stop.0.station after.station (sym stop.2.place ∙ is_after.place)) in
          let more = ap (λ (x : StationId). slice_index (level (s.done + 1)) x.0) (some_same stop.0.station after.station (sym stop.2.place ∙ is_after.place)) in
          let h = is.behind.halt s.done stop.0 stop.1 (omega (arith, within)) in
          let dwell : d ≡ dwell_of leg.action = sym (ap dwell_of e) in
          let least = stop.2.dwell.0 in
          let until : at.0 + d ≡ after.minute = some_same (at.0 + d) after.minute (sym (ap (λ o. after_action (Halt d) o) at.1) ∙ sym (ap (λ x. after_action x (arrival_of net path.kind leg)) e) ∙ is_after.time) in
          subst (λ n. path.depart.from + slice_index (level n) after.station.0 ≤ after.minute) (sym done) (omega (arith, here, one, more, h, dwell, least, until))

      by : (a : Action) → leg.action ≡ a → WasTime path reach after
      by Pass e = same Pass e refl
      by (Wait d) e = same (Wait d) e refl
      by (Halt d) e = halt d e
      by Finish e = same Finish e refl
