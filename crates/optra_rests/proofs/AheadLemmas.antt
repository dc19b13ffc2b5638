-- With so many stops left, a walk still takes the least minutes from each station on by way of them.
use Rattle.std.proofs.Common.{◌≡◌, ℕ, ◌+◌, ◌≤◌, ◌∙◌, inl, inr, Bool, not, sym, List, [], ◌∷◌, Option, None, Some, IsSomeAnd, slice_get, slice_index, slice_index_or, length, ◌-◌, refl, ap, subst, arith}
use Rattle.std.proofs.lemmas.Option.{slice_get_within}
use Rattle.optra_network.specs.Net.{Net, times_of, minutes_by}
use Rattle.optra_network.specs.declared.StationId.{StationId}
use Rattle.optra_network.specs.declared.Times.{Times}
use Rattle.optra_bid.specs.Specs.{Path}
use Rattle.optra_bid.specs.declared.Stop.{Stop}
use Rattle.optra_walk.specs.declared.Action.{Action}
use Rattle.optra_walk.specs.declared.Action.TheVariants.{Pass, Halt, Wait, Finish}
use Rattle.optra_walk.specs.declared.Leg.{Leg}
use Rattle.optra_walk.specs.Legs.{is_pass, dwell_of, arrival_of, after_action}
use Rattle.optra_walk.specs.Walks.{tail_of, head_of, MeetsStop}
use Rattle.optra_walk.specs.declared.state.State.{State}
use Rattle.optra_rests.specs.declared.reach.Reach.{Reach}
use Rattle.optra_rests.specs.Reaches.{IsReach, IsAhead, levels_of}
use Rattle.optra_walk.specs.Moves.{FitsAction, Runs, done_after}
use Rattle.optra_rests.proofs.ReachLemmas.{some_same, track_there, head_is, ran, arrived, arrival_within}

module _ (net : Net) (path : Path) (reach : Reach) (is : IsReach net path reach) where
  abbrev level : ℕ → List ℕ
  level left = slice_index_or (levels_of reach) left []

  -- from a station to the next one along a leg, with so many stops left
  along : (left : ℕ) → left ≤ length path.stops → (leg : Leg) (near far : StationId) (times : Times) (a b : Bool) → tail_of net leg ≡ Some near → head_of net leg ≡ Some far → times_of net leg.track path.kind ≡ Some times
      → slice_index (level left) near.0 ≤ slice_index (level left) far.0 + minutes_by a b times
  along left few leg near far times a b e f g =
      let t = track_there net.tracks leg.track.0 near e in
      let h = head_is net.tracks leg.track.0 far t.0 t.1 f in
      let l = slice_get_within net.tracks leg.track.0 t.0 t.1 in
      let on = is.ahead.each left few leg.track.0 l t.0 times a b t.1 g in
      let u = ap (λ (s : StationId). slice_index (level left) s.0) t.2 in
      let v = ap (λ (s : StationId). slice_index (level left) s.0) h in
      omega (arith, on, u, v)

  stop_there : (o : Option Stop) (leg : Leg) → IsSomeAnd o (MeetsStop net path.kind leg) → (stop : Stop) × (o ≡ Some stop) × MeetsStop net path.kind leg stop
  stop_there None leg h = absurd h
  stop_there (Some stop) leg h = (stop, refl, h)

  -- the stops that are left take their time
  pub rest_ahead : (s : State) (legs : List Leg) → s.done ≤ length path.stops → Runs net path s legs → IsAhead path reach s
  rest_ahead s [] few h = absurd h
  rest_ahead s (leg ∷ rest) few (m, inl f) =
      let fits : FitsAction net path s.done leg Finish = subst (λ a. FitsAction net path s.done leg a) f.0 m.action in
      let at = arrival_within (arrival_of net path.kind leg) path.arrive.from path.arrive.to fits.1.time in
      let t = ran net path.kind leg at.0 at.1 in
      let e = fits.0 in
      let none_left : length path.stops - s.done ≡ 0 = omega (arith, e) in
      let k = along 0 (omega arith) leg s.station path.destination t.0 leg.from_halt (not (is_pass leg.action)) m.place fits.1.place t.1 in
      let z = is.ahead.first in
      let d = m.time in
      let r = t.2 in
      let l = at.2 in
      subst (λ left. s.minute + slice_index (level left) s.station.0 ≤ path.arrive.to) (sym none_left) (omega (arith, k, z, d, r, l))
  rest_ahead s (leg ∷ rest) few (m, inr f) = by leg.action refl (λ few. rest_ahead f.0 rest few f.2)
    where
      at : (k : ℕ) × (arrival_of net path.kind leg ≡ Some k) × (k ≤ f.0.minute)
      at = arrived net path.kind leg f.0.minute f.1.time

      t : (times : Times) × (times_of net leg.track path.kind ≡ Some times) × (leg.depart + minutes_by leg.from_halt (not (is_pass leg.action)) times ≡ at.0)
      t = ran net path.kind leg at.0 at.1

      same : (a : Action) → leg.action ≡ a → done_after a s.done ≡ s.done → (f.0.done ≤ length path.stops → IsAhead path reach f.0) → IsAhead path reach s
      same a e kept i =
          let done : f.0.done ≡ s.done = f.1.done ∙ ap (λ x. done_after x s.done) e ∙ kept in
          let k = along (length path.stops - s.done) (omega arith) leg s.station f.0.station t.0 leg.from_halt (not (is_pass leg.action)) m.place f.1.place t.1 in
          let j = i (omega (arith, done, few)) in
          let j : f.0.minute + slice_index (level (length path.stops - s.done)) f.0.station.0 ≤ path.arrive.to = subst (λ d. f.0.minute + slice_index (level (length path.stops - d)) f.0.station.0 ≤ path.arrive.to) done j in
          let d = m.time in
          let r = t.2 in
          let l = at.2 in
          omega (arith, k, j, d, r, l)

      halt : (d : ℕ) → leg.action ≡ Halt d → (f.0.done ≤ length path.stops → IsAhead path reach f.0) → IsAhead path reach s
      halt d e i =
          let fits : FitsAction net path s.done leg (Halt d) = subst (λ a. FitsAction net path s.done leg a) e m.action in
          let stop = stop_there (slice_get path.stops s.done) leg fits in
          let within = slice_get_within path.stops s.done stop.0 stop.1 in
          let done : f.0.done ≡ s.done + 1 = f.1.done ∙ ap (λ x. done_after x s.done) e in
          let left = length path.stops - (s.done + 1) in
          let one_more : length path.stops - s.done ≡ left + 1 = omega (arith, within) in
          let j = i (omega (arith, done, within)) in
          let j : f.0.minute + slice_index (level left) f.0.station.0 ≤ path.arrive.to = subst (λ d. f.0.minute + slice_index (level (length path.stops - d)) f.0.station.0 ≤ path.arrive.to) done j in
          let k = along (left + 1) (omega (arith, within)) leg s.station f.0.station t.0 leg.from_halt (not (is_pass leg.action)) m.place f.1.place t.1 in
          let here = ap (λ (x : StationId). slice_index (level left) x.0) (some_same stop.0.station f.0.station (sym stop.2.place ∙ f.1.place)) in
          let there = ap (λ (x : StationId). slice_index (level (left + 1)) x.0) (some_same stop.0.station f.0.station (sym stop.2.place ∙ f.1.place)) in
          let h = is.ahead.halt left stop.0 (ap (slice_get path.stops) (omega (arith, within)) ∙ stop.1) (omega (arith, within)) in
          let dwell : d ≡ dwell_of leg.action = sym (ap dwell_of e) in
          let least = stop.2.dwell.0 in
          let until : at.0 + d ≡ f.0.minute = some_same (at.0 + d) f.0.minute (sym (ap (λ o. after_action (Halt d) o) at.1) ∙ sym (ap (λ x. after_action x (arrival_of net path.kind leg)) e) ∙ f.1.time) in
          let g = m.time in
          let r = t.2 in
          subst (λ n. s.minute + slice_index (level n) s.station.0 ≤ path.arrive.to) (sym one_more) (omega (arith, k, j, here, there, h, dwell, least, until, g, r))

      by : (a : Action) → leg.action ≡ a → (f.0.done ≤ length path.stops → IsAhead path reach f.0) → IsAhead path reach s
      by Pass e i = same Pass e refl i
      by (Wait d) e i = same (Wait d) e refl i
      by (Halt d) e i = halt d e i
      by Finish e i = same Finish e refl i
