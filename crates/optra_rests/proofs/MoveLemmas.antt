-- The legs by one way: which may be next, and what is behind them.
use Rattle.std.proofs.Common.{◌≡◌, ℕ, ◌+◌, ◌-◌, ◌*◌, ◌≤◌, ◌<◌, ◌⊎◌, inl, inr, true, false, List, length, Option, None, Some, IfSome, IsSomeAnd, slice_get, refl, sym, ap, ◌∙◌, subst, arith}
use Rattle.std.specs.Prelude.{All, ℤ, pos, ◌-ℤ◌, ◌≤ℤ◌, unwrap_or}
use Rattle.std.specs.Option.{option_map}
use Rattle.std.proofs.lemmas.Int.{ints}
use Rattle.std.proofs.lemmas.Bool.{cases_lt}
use Rattle.std.proofs.lemmas.Option.{get_or_from_slice_get, slice_get_within}
use Rattle.optra_network.specs.Net.{Net, IsFromTo}
use Rattle.optra_network.specs.declared.TrackId.{TrackId}
use Rattle.optra_network.specs.declared.TypeId.{TypeId}
use Rattle.optra_bid.specs.Specs.{Path, IsStop}
use Rattle.optra_bid.specs.declared.Stop.{Stop}
use Rattle.optra_bid.specs.declared.bids.Bid.{Bid}
use Rattle.optra_walk.specs.declared.Action.{Action}
use Rattle.optra_walk.specs.declared.Action.TheVariants.{Pass, Halt, Wait, Finish}
use Rattle.optra_walk.specs.declared.Leg.{Leg}
use Rattle.optra_walk.specs.Legs.{next_depart_of, dwell_of}
use Rattle.optra_walk.specs.Walks.{MeetsStop}
use Rattle.optra_walk.specs.Families.{IsUsable}
use Rattle.optra_rests.specs.Weights.{Weights, AreWeightsFor}
use Rattle.optra_walk.specs.declared.state.State.{State}
use Rattle.optra_rests.specs.declared.ways.Way.{Way}
use Rattle.optra_rests.specs.declared.rest_table.RestTable.{RestTable}
use Rattle.optra_rests.specs.Places.{IsPlaced, mode_of}
use Rattle.optra_walk.specs.Moves.{FitsAction, IsMove, IsAfter, leg_by}
use Rattle.optra_walk.specs.Shares.{end_price, wait_price}
use Rattle.optra_rests.specs.Rests.{IsRestSize, IsBestRest, AnyLeg, greater_of, worth_by}
use Rattle.optra_rests.specs.Tables.{IsReadyFor, rest_at, end_of}
use Rattle.optra_rests.specs.Ways.{IsWay, IsOn, IsLegBy, IsHaltBelow, IsHaltBy, IsWaitBelow, IsWaitBy}
use Rattle.optra_rests.proofs.BestLemmas.{best_same, best_both, best_none, best_on, best_end}
use Rattle.optra_rests.proofs.FillLemmas.{rest_by, early_before}
use Rattle.optra_rests.proofs.HorizonLemmas.{after_later}

some_same : {A : Type 0} (o : Option A) (a b : A) → o ≡ Some a → o ≡ Some b → a ≡ b
some_same o a b e f = cc

-- the stop at a place
pub stop_within : (stops : List Stop) (k : ℕ) (stop : Stop) → All IsStop stops → slice_get stops k ≡ Some stop → IsStop stop
stop_within stops k stop all at = subst IsStop (get_or_from_slice_get stops k stop stop at) (all k stop (slice_get_within stops k stop at))

within_some : (o : Option ℕ) (n from to : ℕ) → o ≡ Some n → from ≤ n → n ≤ to → IsSomeAnd o (IsFromTo from to)
within_some o n from to e l u = subst (λ v. IsSomeAnd v (IsFromTo from to)) (sym e) (l, u)

within_of : (o : Option ℕ) (n from to : ℕ) → o ≡ Some n → IsSomeAnd o (IsFromTo from to) → IsFromTo from to n
within_of o n from to e h = subst (λ v. IsSomeAnd v (IsFromTo from to)) e h

-- what is known of a stop that is there
stop_of : (P : Stop → Type 0) (o : Option Stop) (stop : Stop) → o ≡ Some stop → IsSomeAnd o P → P stop
stop_of P o stop e h = subst (λ v. IsSomeAnd v P) e h

-- and of one that some leg meets
stop_there : (P : Stop → Type 0) (o : Option Stop) → IsSomeAnd o P → (stop : Stop) × (o ≡ Some stop) × P stop
stop_there P None h = absurd h
stop_there P (Some stop) h = (stop, refl, h)

-- a rest from a later minute on
size_before : (m n : ℕ) (z : ℤ) → n ≤ m → IsRestSize m z → IsRestSize n z
size_before m n z l h = (let a = h.0 in omega (arith, ints), h.1)

pub sizes_before : (m n : ℕ) (o : Option ℤ) → n ≤ m → IfSome o (IsRestSize m) → IfSome o (IsRestSize n)
sizes_before m n None l h = tt
sizes_before m n (Some z) l h = size_before m n z l h

module _ (net : Net) (path : Path) (s : State) where
  -- a leg that may be next, by its track and its action
  pub leg_is : (leg : Leg) → IsMove net path s leg → (track : TrackId) → leg.track ≡ track → (a : Action) → leg.action ≡ a → leg ≡ leg_by s track a
  leg_is leg m track t a e = λ i. record { track = t i; depart = m.time i; from_halt = m.mode i; action = e i }

  abbrev By : TrackId → Leg → Type 0
  By track leg = (IsLegBy s track Pass leg ⊎ IsHaltBy s track leg) ⊎ (IsWaitBy s track leg ⊎ IsLegBy s track Finish leg)

  pub split_way : (track : TrackId) (leg : Leg) → IsMove net path s leg → IsOn track leg → By track leg
  split_way track leg m t = of leg.action refl
    where
      of : (a : Action) → leg.action ≡ a → By track leg
      of Pass e = inl (inl (leg_is leg m track t Pass e))
      of (Halt d) e = inl (inr (d, leg_is leg m track t (Halt d) e))
      of (Wait d) e = inr (inl (d, leg_is leg m track t (Wait d) e))
      of Finish e = inr (inr (leg_is leg m track t Finish e))

  pub on_way : (track : TrackId) (leg : Leg) → By track leg → IsOn track leg
  on_way track leg (inl (inl e)) = ap (λ (x : Leg). x.track) e
  on_way track leg (inl (inr (d, e))) = ap (λ (x : Leg). x.track) e
  on_way track leg (inr (inl (d, e))) = ap (λ (x : Leg). x.track) e
  on_way track leg (inr (inr e)) = ap (λ (x : Leg). x.track) e

  move_at : (leg : Leg) (track : TrackId) (a : Action) → leg ≡ leg_by s track a → IsMove net path s leg → FitsAction net path s.done (leg_by s track a) a
  move_at leg track a e m = subst (λ (x : Leg). FitsAction net path s.done x x.action) e m.action

  module _ (way : Way) (by : IsWay net path s way) where
    pub move_by : (a : Action) → FitsAction net path s.done (leg_by s way.track a) a → IsMove net path s (leg_by s way.track a)
    move_by a f = record { place = by.tail; time = refl; mode = refl; may_use = by.may_use; action = f }

    next_halt : (d : ℕ) → next_depart_of net path.kind (leg_by s way.track (Halt d)) ≡ Some (way.halt + d)
    next_halt d = ap (option_map (λ n. n + d)) by.halt

    next_wait : (d : ℕ) → next_depart_of net path.kind (leg_by s way.track (Wait d)) ≡ Some (way.halt + d)
    next_wait d = ap (option_map (λ n. n + d)) by.halt

    abbrev pub after_pass : State
    after_pass = record { station = way.head; minute = way.pass; halted = false; done = s.done }

    abbrev pub after_halt : ℕ → State
    after_halt d = record { station = way.head; minute = way.halt + d; halted = true; done = s.done + 1 }

    abbrev pub after_wait : ℕ → State
    after_wait d = record { station = way.head; minute = way.halt + d; halted = true; done = s.done }

    pub is_after_pass : IsAfter net path s (leg_by s way.track Pass) after_pass
    is_after_pass = record { place = by.head; time = by.pass; mode = refl; done = refl }

    pub is_after_halt : (d : ℕ) → IsAfter net path s (leg_by s way.track (Halt d)) (after_halt d)
    is_after_halt d = record { place = by.head; time = next_halt d; mode = refl; done = refl }

    pub is_after_wait : (d : ℕ) → IsAfter net path s (leg_by s way.track (Wait d)) (after_wait d)
    is_after_wait d = record { place = by.head; time = next_wait d; mode = refl; done = refl }

    -- a halt that may be next meets the stop there
    pub halt_meets : (leg : Leg) (d : ℕ) (stop : Stop) → slice_get path.stops s.done ≡ Some stop → IsMove net path s leg → leg ≡ leg_by s way.track (Halt d)
        → (stop.station ≡ way.head) × IsFromTo stop.arrive.from stop.arrive.to way.halt × IsFromTo stop.min_dwell stop.max_dwell d
    halt_meets leg d stop at m e =
        let meets : MeetsStop net path.kind (leg_by s way.track (Halt d)) stop =
        stop_of (MeetsStop net path.kind (leg_by s way.track (Halt d))) (slice_get path.stops s.done) stop at (move_at leg way.track (Halt d) e m) in
        (some_same _ stop.station way.head meets.place by.head, within_of _ way.halt stop.arrive.from stop.arrive.to by.halt meets.time, meets.dwell)

    -- without a stop that is left no halt may be next
    pub no_halt : slice_get path.stops s.done ≡ None → (leg : Leg) → IsMove net path s leg → IsHaltBy s way.track leg → ⊥
    no_halt none leg m (d, e) = subst (λ o. IsSomeAnd o (MeetsStop net path.kind (leg_by s way.track (Halt d)))) none (move_at leg way.track (Halt d) e m)

    pub halt_move : (d : ℕ) (stop : Stop) → slice_get path.stops s.done ≡ Some stop → stop.station ≡ way.head → stop.arrive.from ≤ way.halt → way.halt ≤ stop.arrive.to
        → stop.min_dwell ≤ d → d ≤ stop.max_dwell → IsMove net path s (leg_by s way.track (Halt d))
    halt_move d stop at there early end least most =
        let meets : MeetsStop net path.kind (leg_by s way.track (Halt d)) stop = record { place = by.head ∙ ap Some (sym there); time = within_some _ way.halt stop.arrive.from stop.arrive.to by.halt early end; dwell = (least, most) } in
        move_by (Halt d) (subst (λ o. IsSomeAnd o (MeetsStop net path.kind (leg_by s way.track (Halt d)))) (sym at) meets)

    pub wait_within : (leg : Leg) (d : ℕ) → IsMove net path s leg → leg ≡ leg_by s way.track (Wait d) → IsFromTo 1 path.wait_max d
    wait_within leg d m e = move_at leg way.track (Wait d) e m

    pub wait_move : (d : ℕ) → 1 ≤ d → d ≤ path.wait_max → IsMove net path s (leg_by s way.track (Wait d))
    wait_move d least most = move_by (Wait d) (least, most)

    pub finish_fits : (leg : Leg) → IsMove net path s leg → leg ≡ leg_by s way.track Finish
        → (s.done ≡ length path.stops) × (way.head ≡ path.destination) × (path.arrive.from ≤ way.halt) × (way.halt ≤ path.arrive.to)
    finish_fits leg m e =
        let f = move_at leg way.track Finish e m in
        let t = within_of _ way.halt path.arrive.from path.arrive.to by.halt f.1.time in
        (f.0, some_same _ way.head path.destination by.head f.1.place, t.0, t.1)

    pub finish_move : (s.done ≡ length path.stops) × (way.head ≡ path.destination) × (path.arrive.from ≤ way.halt) × (way.halt ≤ path.arrive.to) → IsMove net path s (leg_by s way.track Finish)
    finish_move h = move_by Finish (h.0, record { finish = refl; place = by.head ∙ ap Some h.1; time = within_some _ way.halt path.arrive.from path.arrive.to by.halt h.2 h.3 })

module _ (w : Weights) (net : Net) (bid : Bid) (table : RestTable) (s : State) (ready : IsReadyFor w net bid table s) where
  -- what the table has for a state that comes later
  pub later_rest : (leg : Leg) (after : State) → IsMove net bid.path s leg → IsAfter net bid.path s leg after → after.station.0 < length net.stations → after.done * 2 + mode_of after.halted < table.layout.slots
      → (after.minute < end_of table → IsPlaced table.layout after) × IsBestRest w net bid after AnyLeg (rest_at table after)
  later_rest leg after move is_after station done =
      (placed, rest_by w net bid table after ready.reach ready.setting (λ early. ready.later leg after move is_after (placed (early_before table after early)) early))
    where
      placed : after.minute < end_of table → IsPlaced table.layout after
      placed l = let later = after_later net bid.path ready.setting.proper s after leg move is_after in let early = ready.placed.early in let e = ready.setting.laid.stations in record { early = omega arith; late = l; done = done; station = omega (arith, e) }

  -- a leg by a way may be asked of
  usable : (way : Way) → IsWay net bid.path s way → AreWeightsFor w net bid.path → (a : Action) → dwell_of a ≤ 240 → IsUsable w.net w.kind (leg_by s way.track a)
  usable way by for a few =
      let late = ready.placed.late in
      let end = ready.setting.small.end in
      let here : IsUsable net bid.path.kind (leg_by s way.track a) = record { proper = ready.setting.proper; may_use = by.may_use; depart = omega arith; dwell = few } in
      subst (λ (k : TypeId). IsUsable w.net k (leg_by s way.track a)) (sym for.kind_is) (subst (λ (n : Net). IsUsable n bid.path.kind (leg_by s way.track a)) (sym for.net_is) here)

  module _ (way : Way) (by : IsWay net bid.path s way) (for : AreWeightsFor w net bid.path) where
    slots_room : s.done * 2 + 1 < table.layout.slots
    slots_room = let d = ready.placed.done in let e = ready.setting.laid.slots in omega (arith, d, e)

    -- ---- passing

    pub pass_later : (way.pass < end_of table → IsPlaced table.layout (after_pass net bid.path s way by))
        × IsBestRest w net bid (after_pass net bid.path s way by) AnyLeg (rest_at table (after_pass net bid.path s way by))
    pass_later = let d = ready.placed.done in later_rest (leg_by s way.track Pass) (after_pass net bid.path s way by) (move_by net bid.path s way by Pass tt) (is_after_pass net bid.path s way by) by.station (omega (arith, d))

    pub pass_best : IfSome (worth_by w (leg_by s way.track Pass) (pos 0) (rest_at table (after_pass net bid.path s way by))) (IsRestSize s.minute)
        → IsBestRest w net bid s (IsLegBy s way.track Pass) (worth_by w (leg_by s way.track Pass) (pos 0) (rest_at table (after_pass net bid.path s way by)))
    pass_best size = best_on w net bid s (leg_by s way.track Pass) (pos 0) (after_pass net bid.path s way by) (rest_at table (after_pass net bid.path s way by))
        (move_by net bid.path s way by Pass tt) (is_after_pass net bid.path s way by) refl pass_later.1 size

    -- ---- a halt

    module _ (d : ℕ) (move : IsMove net bid.path s (leg_by s way.track (Halt d))) where
      stop_at : (stop : Stop) × (slice_get bid.path.stops s.done ≡ Some stop) × MeetsStop net bid.path.kind (leg_by s way.track (Halt d)) stop
      stop_at = stop_there (MeetsStop net bid.path.kind (leg_by s way.track (Halt d))) (slice_get bid.path.stops s.done) move.action

      pub halt_few : d ≤ 240
      halt_few =
          let is = stop_within bid.path.stops s.done stop_at.0 ready.setting.stops stop_at.1 in
          let most = is.dwell_max in
          let within = stop_at.2.dwell.1 in
          omega arith

      pub halt_done : s.done < length bid.path.stops
      halt_done = slice_get_within bid.path.stops s.done stop_at.0 stop_at.1

      pub halt_usable : IsUsable w.net w.kind (leg_by s way.track (Halt d))
      halt_usable = usable way by for (Halt d) halt_few

      pub halt_later : (way.halt + d < end_of table → IsPlaced table.layout (after_halt net bid.path s way by d))
          × IsBestRest w net bid (after_halt net bid.path s way by d) AnyLeg (rest_at table (after_halt net bid.path s way by d))
      halt_later = let e = ready.setting.laid.slots in let l = by.halt_later in let more = halt_done in
          later_rest (leg_by s way.track (Halt d)) (after_halt net bid.path s way by d) move (is_after_halt net bid.path s way by d) by.station (omega (arith, e, more))

      pub halt_best : IfSome (worth_by w (leg_by s way.track (Halt d)) (pos 0) (rest_at table (after_halt net bid.path s way by d))) (IsRestSize s.minute)
          → IsBestRest w net bid s (IsLegBy s way.track (Halt d)) (worth_by w (leg_by s way.track (Halt d)) (pos 0) (rest_at table (after_halt net bid.path s way by d)))
      halt_best size = best_on w net bid s (leg_by s way.track (Halt d)) (pos 0) (after_halt net bid.path s way by d) (rest_at table (after_halt net bid.path s way by d))
          move (is_after_halt net bid.path s way by d) refl halt_later.1 size

    -- ---- a wait

    module _ (d : ℕ) (move : IsMove net bid.path s (leg_by s way.track (Wait d))) where
      pub wait_few : d ≤ 240
      wait_few = let most = ready.setting.wait_max in let within = move.action.1 in omega arith

      pub wait_later : (way.halt + d < end_of table → IsPlaced table.layout (after_wait net bid.path s way by d))
          × IsBestRest w net bid (after_wait net bid.path s way by d) AnyLeg (rest_at table (after_wait net bid.path s way by d))
      wait_later = let l = by.halt_later in later_rest (leg_by s way.track (Wait d)) (after_wait net bid.path s way by d) move (is_after_wait net bid.path s way by d) by.station slots_room

      pub wait_best : IfSome (worth_by w (leg_by s way.track (Wait d)) (wait_price bid d) (rest_at table (after_wait net bid.path s way by d))) (IsRestSize s.minute)
          → IsBestRest w net bid s (IsLegBy s way.track (Wait d)) (worth_by w (leg_by s way.track (Wait d)) (wait_price bid d) (rest_at table (after_wait net bid.path s way by d)))
      wait_best size = best_on w net bid s (leg_by s way.track (Wait d)) (wait_price bid d) (after_wait net bid.path s way by d) (rest_at table (after_wait net bid.path s way by d))
          move (is_after_wait net bid.path s way by d) refl wait_later.1 size

    -- ---- the end

    pub finish_best : IsMove net bid.path s (leg_by s way.track Finish) → IfSome (worth_by w (leg_by s way.track Finish) (end_price bid way.halt) (Some (pos 0))) (IsRestSize s.minute)
        → IsBestRest w net bid s (IsLegBy s way.track Finish) (worth_by w (leg_by s way.track Finish) (end_price bid way.halt) (Some (pos 0)))
    finish_best move size = best_end w net bid s (leg_by s way.track Finish) (end_price bid way.halt) move refl
        (ap (λ (o : Option ℕ). end_price bid (unwrap_or o 0)) (sym by.halt)) size

    pub finish_none : ((s.done ≡ length bid.path.stops) × (way.head ≡ bid.path.destination) × (bid.path.arrive.from ≤ way.halt) × (way.halt ≤ bid.path.arrive.to) → ⊥)
        → IsBestRest w net bid s (IsLegBy s way.track Finish) None
    finish_none apart = best_none w net bid s (IsLegBy s way.track Finish) (λ leg m e. apart (finish_fits net bid.path s way by leg m e))

    -- ---- all legs by the way

    pub way_best : (a b c d : Option ℤ) → IsBestRest w net bid s (IsLegBy s way.track Pass) a → IsBestRest w net bid s (IsHaltBy s way.track) b
        → IsBestRest w net bid s (IsWaitBy s way.track) c → IsBestRest w net bid s (IsLegBy s way.track Finish) d
        → IsBestRest w net bid s (IsOn way.track) (greater_of (greater_of a b) (greater_of c d))
    way_best a b c d pass halts waits finish =
        best_both w net bid s (λ leg. IsLegBy s way.track Pass leg ⊎ IsHaltBy s way.track leg) (λ leg. IsWaitBy s way.track leg ⊎ IsLegBy s way.track Finish leg) (IsOn way.track)
        (greater_of a b) (greater_of c d)
        (λ leg m on. split_way net bid.path s way.track leg m on)
        (λ leg e. on_way net bid.path s way.track leg (inl e)) (λ leg e. on_way net bid.path s way.track leg (inr e))
        (best_both w net bid s (IsLegBy s way.track Pass) (IsHaltBy s way.track) (λ leg. IsLegBy s way.track Pass leg ⊎ IsHaltBy s way.track leg) a b (λ leg m e. e) (λ leg e. inl e) (λ leg e. inr e) pass halts)
        (best_both w net bid s (IsWaitBy s way.track) (IsLegBy s way.track Finish) (λ leg. IsWaitBy s way.track leg ⊎ IsLegBy s way.track Finish leg) c d (λ leg m e. e) (λ leg e. inl e) (λ leg e. inr e) waits finish)

    -- ---- halts and waits, dwell by dwell

    pub halt_start : (stop : Stop) → slice_get bid.path.stops s.done ≡ Some stop → IsBestRest w net bid s (IsHaltBelow s way.track stop.min_dwell) None
    halt_start stop at = best_none w net bid s (IsHaltBelow s way.track stop.min_dwell)
        (λ leg m h. let f = halt_meets net bid.path s way by leg h.0 stop at m h.2 in let least = f.2.0 in let l = h.1 in absurd (omega arith))

    pub halt_push : (d : ℕ) (a b : Option ℤ) → IsBestRest w net bid s (IsHaltBelow s way.track d) a → IsBestRest w net bid s (IsLegBy s way.track (Halt d)) b
        → IsBestRest w net bid s (IsHaltBelow s way.track (d + 1)) (greater_of a b)
    halt_push d a b h k = best_both w net bid s (IsHaltBelow s way.track d) (IsLegBy s way.track (Halt d)) (IsHaltBelow s way.track (d + 1)) a b
        (λ leg m e. split leg e (cases_lt e.0 d)) (λ leg e. let l = e.1 in (e.0, omega arith, e.2)) (λ leg e. (d, omega arith, e)) h k
      where
        split : (leg : Leg) → (e : IsHaltBelow s way.track (d + 1) leg) → (e.0 < d) ⊎ (d ≤ e.0) → IsHaltBelow s way.track d leg ⊎ IsLegBy s way.track (Halt d) leg
        split leg e (inl l) = inl (e.0, l, e.2)
        split leg e (inr l) = let b = e.1 in let same : e.0 ≡ d = omega arith in inr (e.2 ∙ ap (λ n. leg_by s way.track (Halt n)) same)

    pub halt_end : (stop : Stop) (d : ℕ) (a : Option ℤ) → slice_get bid.path.stops s.done ≡ Some stop → stop.max_dwell < d → IsBestRest w net bid s (IsHaltBelow s way.track d) a
        → IsBestRest w net bid s (IsHaltBy s way.track) a
    halt_end stop d a at over h = best_same w net bid s (IsHaltBelow s way.track d) (IsHaltBy s way.track) a (λ leg m e. (e.0, e.2))
        (λ leg m e. let f = halt_meets net bid.path s way by leg e.0 stop at m e.1 in let most = f.2.1 in (e.0, omega arith, e.1)) h

    pub halt_none : (stop : Stop) → slice_get bid.path.stops s.done ≡ Some stop → ((stop.station ≡ way.head) × (stop.arrive.from ≤ way.halt) × (way.halt ≤ stop.arrive.to) → ⊥)
        → IsBestRest w net bid s (IsHaltBy s way.track) None
    halt_none stop at apart = best_none w net bid s (IsHaltBy s way.track)
        (λ leg m e. let f = halt_meets net bid.path s way by leg e.0 stop at m e.1 in apart (f.0, f.1.0, f.1.1))

    pub halt_no_stop : slice_get bid.path.stops s.done ≡ None → IsBestRest w net bid s (IsHaltBy s way.track) None
    halt_no_stop none = best_none w net bid s (IsHaltBy s way.track) (no_halt net bid.path s way by none)

    pub wait_start : IsBestRest w net bid s (IsWaitBelow s way.track 1) None
    wait_start = best_none w net bid s (IsWaitBelow s way.track 1)
        (λ leg m h. let f = wait_within net bid.path s way by leg h.0 m h.2 in let least = f.0 in let l = h.1 in absurd (omega arith))

    pub wait_push : (d : ℕ) (a b : Option ℤ) → IsBestRest w net bid s (IsWaitBelow s way.track d) a → IsBestRest w net bid s (IsLegBy s way.track (Wait d)) b
        → IsBestRest w net bid s (IsWaitBelow s way.track (d + 1)) (greater_of a b)
    wait_push d a b h k = best_both w net bid s (IsWaitBelow s way.track d) (IsLegBy s way.track (Wait d)) (IsWaitBelow s way.track (d + 1)) a b
        (λ leg m e. split leg e (cases_lt e.0 d)) (λ leg e. let l = e.1 in (e.0, omega arith, e.2)) (λ leg e. (d, omega arith, e)) h k
      where
        split : (leg : Leg) → (e : IsWaitBelow s way.track (d + 1) leg) → (e.0 < d) ⊎ (d ≤ e.0) → IsWaitBelow s way.track d leg ⊎ IsLegBy s way.track (Wait d) leg
        split leg e (inl l) = inl (e.0, l, e.2)
        split leg e (inr l) = let b = e.1 in let same : e.0 ≡ d = omega arith in inr (e.2 ∙ ap (λ n. leg_by s way.track (Wait n)) same)

    pub wait_end : (d : ℕ) (a : Option ℤ) → bid.path.wait_max < d → IsBestRest w net bid s (IsWaitBelow s way.track d) a → IsBestRest w net bid s (IsWaitBy s way.track) a
    wait_end d a over h = best_same w net bid s (IsWaitBelow s way.track d) (IsWaitBy s way.track) a (λ leg m e. (e.0, e.2))
        (λ leg m e. let f = wait_within net bid.path s way by leg e.0 m e.1 in let most = f.1 in (e.0, omega arith, e.1)) h

-- a rest by a leg that departs at a minute of the two days, where the rest behind it departs later
pub less_size : (depart : ℕ) (rest share cost n : ℤ) → depart ≤ 2879 → IsRestSize (depart + 1) rest → pos 0 ≤ℤ share → share ≤ℤ pos 1000000000000000
    → pos 0 ≤ℤ cost → cost ≤ℤ pos 1152921504606846976 → n ≡ rest -ℤ share -ℤ cost → IsRestSize depart n
less_size depart rest share cost n l h s t c d e =
    let low = h.0 in
    let high = h.1 in
    let more : 2880 - depart ≡ 2880 - (depart + 1) + 1 = omega arith in
    (omega (arith, ints), omega (arith, ints))

-- ---- the same under other names

pub named_size : (x leg : Leg) (after : State) (o rest : Option ℤ) → x.depart < after.minute → IfSome o (IsRestSize after.minute) → leg ≡ x → rest ≡ o → IfSome rest (IsRestSize (leg.depart + 1))
named_size x leg after o rest l h e f =
    let d = ap (λ (y : Leg). y.depart) e in
    subst (λ (r : Option ℤ). IfSome r (IsRestSize (leg.depart + 1))) (sym f) (sizes_before after.minute (leg.depart + 1) o (omega arith) h)

pub named_best : (w : Weights) (net : Net) (bid : Bid) (s : State) (P : Leg → Type 0) (x leg : Leg) (share given : ℤ) (o rest result : Option ℤ) → leg ≡ x → given ≡ share → rest ≡ o
    → result ≡ worth_by w leg given rest → IfSome result (IsRestSize leg.depart) → x.depart ≡ s.minute
    → (IfSome (worth_by w x share o) (IsRestSize s.minute) → IsBestRest w net bid s P (worth_by w x share o)) → IsBestRest w net bid s P result
named_best w net bid s P x leg share given o rest result e f r v size at best =
    let d : leg.depart ≡ s.minute = ap (λ (y : Leg). y.depart) e ∙ at in
    let is : result ≡ worth_by w x share o = v ∙ (λ i. worth_by w (e i) (f i) (r i)) in
    let sized : IfSome (worth_by w x share o) (IsRestSize s.minute) = subst (λ (q : Option ℤ). IfSome q (IsRestSize s.minute)) is (subst (λ (n : ℕ). IfSome result (IsRestSize n)) d size) in
    subst (IsBestRest w net bid s P) (sym is) (best sized)
