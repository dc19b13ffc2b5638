-- The different pairs of a bid and a leg of one of its walks stand in a list: whether legs are a walk can be decided, and a
-- walk has fewer than 2,880 legs, each one of finitely many.
use Rattle.std.proofs.Common.{◌≡◌, ℕ, zero, suc, ◌-◌, ◌≤◌, ◌<◌, Bool, true, false, not, List, [], ◌∷◌, ◌++◌, map, length, filter, get_or, Option, None, Some, IsSomeAnd, slice_get, refl, sym, ap, ◌∙◌, subst, arith, inl, inr}
use Rattle.std.specs.Prelude.{All, Contains}
use Rattle.std.specs.List.{flat_map, range_with_len}
use Rattle.std.proofs.lemmas.Bool.{cases_eq}
use Rattle.std.proofs.lemmas.List.Elements.{All-nil, All-append, All-map, All-weaker, All-contains, Contains-append_left, Contains-append_right}
use Rattle.std.proofs.lemmas.Option.{slice_get_within}
use Rattle.optra_network.specs.Net.{Net, IsProper, IsFromTo, MayUse, times_of}
use Rattle.optra_network.specs.declared.StationId.{StationId}
use Rattle.optra_network.proofs.HeadwayLemmas.{below_types}
use Rattle.optra_bid.specs.Specs.{Path}
use Rattle.optra_bid.specs.declared.Stop.{Stop}
use Rattle.optra_bid.specs.declared.bids.Bid.{Bid}
use Rattle.optra_walk.specs.declared.Action.{Action}
use Rattle.optra_walk.specs.declared.Action.TheVariants.{Pass, Halt, Wait, Finish}
use Rattle.optra_walk.specs.declared.Leg.{Leg}
use Rattle.optra_walk.specs.Families.{IsUsable}
use Rattle.optra_walk.specs.Legs.{is_pass, is_halt, is_finish, dwell_of, arrival_of, next_depart_of}
use Rattle.optra_walk.specs.Walks.{IsWalk, IsStart, IsNext, MeetsStop, IsAllowedWait, IsEnd, FinishesLast, tail_of, head_of, first_leg, last_leg}
use Rattle.optra_walk.proofs.UsableLemmas.{walk_usable}
use Rattle.optra_walk.proofs.WalkLemmas.{few_legs}
use Rattle.optra_search.specs.Laws.{IsPair}
use Rattle.optra_top.proofs.DecidedFacts.{Decided, alike, both, same_number, at_most, same_bool, same_option, is_some, some_and, all_of, all_zip, all_below, all_adjacent}
use Rattle.optra_top.proofs.FiniteLists.{contains_in, contains-map, contains-flat_map, contains-range, lists, contains-lists, Kept, kept, HasOnly, Gathered, gathered, differing}
use Rattle.optra_top.specs.PlanLaws.{HasPairs}

-- ---- whether legs are a walk

from_to : (low high n : ℕ) → Decided (IsFromTo low high n)
from_to low high n = both (at_most low n) (at_most n high)

same_station : (a b : StationId) → Decided (a ≡ b)
same_station a b = alike (λ (e : a.0 ≡ b.0) i. record { 0 = e i }) (λ e. ap (λ (s : StationId). s.0) e) (same_number a.0 b.0)

ends_there : (a : Action) → Decided (a ≡ Finish)
ends_there Pass = inr (λ e. cc)
ends_there (Halt n) = inr (λ e. cc)
ends_there (Wait n) = inr (λ e. cc)
ends_there Finish = inl refl

may_wait : (most : ℕ) (a : Action) → Decided (IsAllowedWait most a)
may_wait most Pass = inl tt
may_wait most (Halt n) = inl tt
may_wait most (Wait n) = from_to 1 most n
may_wait most Finish = inl tt

module _ (net : Net) (path : Path) where
  starts : (leg : Leg) → Decided (IsStart net path leg)
  starts leg =
      alike (λ h. record { origin = h.0; halted = h.1.0; window = h.1.1 }) (λ (s : IsStart net path leg). (s.origin, (s.halted, s.window)))
      (both (same_option same_station (tail_of net leg) (Some path.origin)) (both (same_bool leg.from_halt true) (from_to path.depart.from path.depart.to leg.depart)))

  goes_on : (before after : Leg) → Decided (IsNext net path.kind before after)
  goes_on before after =
      alike (λ h. record { place = h.0; time = h.1.0; mode = h.1.1 }) (λ (s : IsNext net path.kind before after). (s.place, (s.time, s.mode)))
      (both (same_option same_station (tail_of net after) (head_of net before))
      (both (same_option same_number (next_depart_of net path.kind before) (Some after.depart)) (same_bool after.from_halt (not (is_pass before.action)))))

  meets : (leg : Leg) (stop : Stop) → Decided (MeetsStop net path.kind leg stop)
  meets leg stop =
      alike (λ h. record { place = h.0; time = h.1.0; dwell = h.1.1 }) (λ (s : MeetsStop net path.kind leg stop). (s.place, (s.time, s.dwell)))
      (both (same_option same_station (head_of net leg) (Some stop.station))
      (both (some_and (IsFromTo stop.arrive.from stop.arrive.to) (from_to stop.arrive.from stop.arrive.to) (arrival_of net path.kind leg)) (from_to stop.min_dwell stop.max_dwell (dwell_of leg.action))))

  ends : (leg : Leg) → Decided (IsEnd net path leg)
  ends leg =
      alike (λ h. record { finish = h.0; place = h.1.0; time = h.1.1 }) (λ (s : IsEnd net path leg). (s.finish, (s.place, s.time)))
      (both (ends_there leg.action)
      (both (same_option same_station (head_of net leg) (Some path.destination))
      (some_and (IsFromTo path.arrive.from path.arrive.to) (from_to path.arrive.from path.arrive.to) (arrival_of net path.kind leg))))

  GoesPast : List Leg → ℕ → Type 0
  GoesPast legs k = IsSomeAnd (slice_get legs k) (λ leg. is_finish leg.action ≡ false)

  finishes : (legs : List Leg) → Decided (FinishesLast legs)
  unfolding GoesPast
  finishes legs =
      alike (λ h k l. h k (omega arith)) (λ (h : FinishesLast legs) k l. h k (omega arith))
      (all_below (GoesPast legs) (λ k. some_and (λ (leg : Leg). is_finish leg.action ≡ false) (λ leg. same_bool (is_finish leg.action) false) (slice_get legs k)) (length legs - 1))

  is_walk : (legs : List Leg) → Decided (IsWalk net path legs)
  is_walk legs =
      alike (λ h. record { start = h.0; may_use = h.1.0; goes_on = h.1.1.0; stops = h.1.1.1.0; waits = h.1.1.1.1.0; end = h.1.1.1.1.1.0; finishes_last = h.1.1.1.1.1.1 })
      (λ (w : IsWalk net path legs). (w.start, (w.may_use, (w.goes_on, (w.stops, (w.waits, (w.end, w.finishes_last)))))))
      (both (some_and (IsStart net path) starts (first_leg legs))
      (both (all_of (λ leg. MayUse net leg.track path.kind) (λ leg. is_some (times_of net leg.track path.kind)) legs)
      (both (all_adjacent (IsNext net path.kind) goes_on legs)
      (both (all_zip (MeetsStop net path.kind) meets (filter (λ leg. is_halt leg.action) legs) path.stops)
      (both (all_of (λ leg. IsAllowedWait path.wait_max leg.action) (λ leg. may_wait path.wait_max leg.action) legs)
      (both (some_and (IsEnd net path) ends (last_leg legs)) (finishes legs)))))))

-- ---- all legs that a walk may have

leg_of : ℕ → ℕ → Bool → Action → Leg
leg_of track depart from_halt action = record { track = record { 0 = track }; depart = depart; from_halt = from_halt; action = action }

-- the actions with a dwell below so many minutes
every_action : ℕ → List Action
every_action dwells = (Pass ∷ Finish ∷ []) ++ (map Halt (range_with_len 0 dwells) ++ map Wait (range_with_len 0 dwells))

-- the legs on so many tracks, at so many minutes, with such an action
every_leg : ℕ → ℕ → ℕ → List Leg
every_leg tracks minutes dwells =
    flat_map (λ t. flat_map (λ d. flat_map (λ h. map (leg_of t d h) (every_action dwells)) (true ∷ false ∷ [])) (range_with_len 0 minutes)) (range_with_len 0 tracks)

contains_action : (dwells : ℕ) (a : Action) → dwell_of a < dwells → Contains (every_action dwells) a
unfolding every_action
contains_action dwells Pass l = (0, omega arith, refl)
contains_action dwells Finish l = (1, omega arith, refl)
contains_action dwells (Halt n) l =
    Contains-append_right (Pass ∷ Finish ∷ []) (map Halt (range_with_len 0 dwells) ++ map Wait (range_with_len 0 dwells)) (Halt n)
    (Contains-append_left (map Halt (range_with_len 0 dwells)) (map Wait (range_with_len 0 dwells)) (Halt n) (contains-map Halt (range_with_len 0 dwells) n (contains-range dwells n l)))
contains_action dwells (Wait n) l =
    Contains-append_right (Pass ∷ Finish ∷ []) (map Halt (range_with_len 0 dwells) ++ map Wait (range_with_len 0 dwells)) (Wait n)
    (Contains-append_right (map Halt (range_with_len 0 dwells)) (map Wait (range_with_len 0 dwells)) (Wait n) (contains-map Wait (range_with_len 0 dwells) n (contains-range dwells n l)))

contains_mode : (h : Bool) → Contains (true ∷ false ∷ []) h
contains_mode true = (0, omega arith, refl)
contains_mode false = (1, omega arith, refl)

contains_leg : (tracks minutes dwells : ℕ) (leg : Leg) → leg.track.0 < tracks → leg.depart < minutes → dwell_of leg.action < dwells → Contains (every_leg tracks minutes dwells) leg
unfolding every_leg leg_of
contains_leg tracks minutes dwells leg t d a =
    contains-flat_map (λ t. flat_map (λ d. flat_map (λ h. map (leg_of t d h) (every_action dwells)) (true ∷ false ∷ [])) (range_with_len 0 minutes)) (range_with_len 0 tracks) leg.track.0 leg (contains-range tracks leg.track.0 t)
    (contains-flat_map (λ d. flat_map (λ h. map (leg_of leg.track.0 d h) (every_action dwells)) (true ∷ false ∷ [])) (range_with_len 0 minutes) leg.depart leg (contains-range minutes leg.depart d)
    (contains-flat_map (λ h. map (leg_of leg.track.0 leg.depart h) (every_action dwells)) (true ∷ false ∷ []) leg.from_halt leg (contains_mode leg.from_halt)
    (contains-map (leg_of leg.track.0 leg.depart leg.from_halt) (every_action dwells) leg.action (contains_action dwells leg.action a))))

-- ---- whether two pairs are the same

same_action : (a b : Action) → Decided (a ≡ b)
same_action Pass Pass = inl refl
same_action Pass (Halt n) = inr (λ e. cc)
same_action Pass (Wait n) = inr (λ e. cc)
same_action Pass Finish = inr (λ e. cc)
same_action (Halt m) Pass = inr (λ e. cc)
same_action (Halt m) (Halt n) = alike (λ (e : m ≡ n). ap Halt e) (λ (e : Halt m ≡ Halt n). cc) (same_number m n)
same_action (Halt m) (Wait n) = inr (λ e. cc)
same_action (Halt m) Finish = inr (λ e. cc)
same_action (Wait m) Pass = inr (λ e. cc)
same_action (Wait m) (Halt n) = inr (λ e. cc)
same_action (Wait m) (Wait n) = alike (λ (e : m ≡ n). ap Wait e) (λ (e : Wait m ≡ Wait n). cc) (same_number m n)
same_action (Wait m) Finish = inr (λ e. cc)
same_action Finish Pass = inr (λ e. cc)
same_action Finish (Halt n) = inr (λ e. cc)
same_action Finish (Wait n) = inr (λ e. cc)
same_action Finish Finish = inl refl

same_leg : (a b : Leg) → Decided (a ≡ b)
same_leg a b =
    alike (λ h i. record { track = record { 0 = h.0 i }; depart = h.1.0 i; from_halt = h.1.1.0 i; action = h.1.1.1 i })
    (λ e. (ap (λ (l : Leg). l.track.0) e, (ap (λ (l : Leg). l.depart) e, (ap (λ (l : Leg). l.from_halt) e, ap (λ (l : Leg). l.action) e))))
    (both (same_number a.track.0 b.track.0) (both (same_number a.depart b.depart) (both (same_bool a.from_halt b.from_halt) (same_action a.action b.action))))

same_pair : (a b : ℕ × Leg) → Decided (a ≡ b)
same_pair a b = alike (λ h i. (h.0 i, h.1 i)) (λ e. (ap (λ (p : ℕ × Leg). p.0) e, ap (λ (p : ℕ × Leg). p.1) e)) (both (same_number a.0 b.0) (same_leg a.1 b.1))

-- ---- the pairs

module _ (net : Net) (bids : List Bid) (proper : IsProper net) where
  -- the walks of a bid
  record Walks (bid : Bid) (walks : List (List Leg)) : Type 0 where
    pub each : All (IsWalk net bid.path) walks
    pub whole : (legs : List Leg) → IsWalk net bid.path legs → Contains walks legs

  walks_of : (bid : Bid) → (walks : List (List Leg)) × Walks bid walks
  walks_of bid = (t.0, record { each = t.1.each; whole = λ legs walk. t.1.whole legs (contains-lists all 2880 legs (short legs walk) (within legs walk)) walk })
    where
      all : List Leg
      all = every_leg (length net.tracks) 2880 241

      t : (walks : List (List Leg)) × Kept (IsWalk net bid.path) (lists all 2880) walks
      t = kept (IsWalk net bid.path) (is_walk net bid.path) (lists all 2880)

      short : (legs : List Leg) → IsWalk net bid.path legs → length legs ≤ 2880
      short legs walk = let f = few_legs net bid.path legs proper walk bid.bounds.arrive.day in omega arith

      within : (legs : List Leg) → IsWalk net bid.path legs → All (Contains all) legs
      within legs walk k d l =
          let usable : IsUsable net bid.path.kind (get_or legs k d) = walk_usable net proper bid legs walk k d l in
          let depart = usable.depart in
          let dwell = usable.dwell in
          contains_leg (length net.tracks) 2880 241 (get_or legs k d) (below_types net (get_or legs k d).track bid.path.kind proper usable.may_use).2 (omega arith) (omega arith)

  -- the pairs of the bids below a position
  record IsUpTo (n : ℕ) (pairs : List (ℕ × Leg)) : Type 0 where
    pub each : All (IsPair net bids) pairs
    pub whole : (pair : ℕ × Leg) → pair.0 < n → IsPair net bids pair → Contains pairs pair

  IsPairAt : ℕ → Leg → Type 0
  IsPairAt n leg = IsPair net bids (n, leg)

  up_to : (n : ℕ) → (pairs : List (ℕ × Leg)) × IsUpTo n pairs
  up_to zero = ([], record { each = All-nil (IsPair net bids); whole = λ pair l is. absurd (omega arith) })
  up_to (suc n) = by (slice_get bids n) refl (up_to n)
    where
      by : (o : Option Bid) → slice_get bids n ≡ o → (pairs : List (ℕ × Leg)) × IsUpTo n pairs → (pairs : List (ℕ × Leg)) × IsUpTo (suc n) pairs
      by None e before = (before.0, record { each = before.1.each; whole = whole })
        where
          whole : (pair : ℕ × Leg) → pair.0 < suc n → IsPair net bids pair → Contains before.0 pair
          whole pair l is = elim (cases_eq pair.0 n) as (λ _. Contains before.0 pair) [
            | inl same ↦ let none : slice_get bids pair.0 ≡ None = ap (λ (k : ℕ). slice_get bids k) same ∙ e in let some = is.at in absurd (cc)
            | inr other ↦ before.1.whole pair (omega arith) is
          ]
      by (Some bid) e before = (before.0 ++ here, record { each = All-append (IsPair net bids) before.0 here before.1.each each_here; whole = whole })
        where
          walks : (walks : List (List Leg)) × Walks bid walks
          walks = walks_of bid

          legs : (legs : List Leg) × Gathered (λ leg. IsPair net bids (n, leg)) walks.0 legs
          legs =
              gathered (λ leg. IsPair net bids (n, leg)) walks.0
              (All-weaker (IsWalk net bid.path) (HasOnly (λ leg. IsPair net bids (n, leg))) (λ way walk leg c. record { bid = bid; at = e; legs = way; walk = walk; has = c }) walks.0 walks.1.each)

          here : List (ℕ × Leg)
          here = map (λ leg. (n, leg)) legs.0

          each_here : All (IsPair net bids) here
          each_here = All-map (IsPair net bids) (λ leg. (n, leg)) legs.0 legs.1.each

          whole : (pair : ℕ × Leg) → pair.0 < suc n → IsPair net bids pair → Contains (before.0 ++ here) pair
          whole pair l is = elim (cases_eq pair.0 n) as (λ _. Contains (before.0 ++ here) pair) [
            | inl same ↦
                let at : slice_get bids pair.0 ≡ Some bid = ap (λ (k : ℕ). slice_get bids k) same ∙ e in
                let some = is.at in
                let one : is.bid ≡ bid = cc in
                let walk : IsWalk net bid.path is.legs = subst (λ (b : Bid). IsWalk net b.path is.legs) one is.walk in
                let c : Contains here (n, pair.1) = contains-map (λ (leg : Leg). (n, leg)) legs.0 pair.1 (legs.1.whole is.legs (walks.1.whole is.legs walk) pair.1 is.has) in
                let e : (n, pair.1) ≡ pair = λ i. (sym same i, pair.1) in
                Contains-append_right before.0 here pair (subst (Contains here) e c)
            | inr other ↦ Contains-append_left before.0 here pair (before.1.whole pair (omega arith) is)
          ]

  -- there is a list of the pairs
  pub pairs_there : HasPairs net bids
  pairs_there =
      let all = up_to (length bids) in
      let once = differing same_pair all.0 in (
        once.0,
        record {
          each = λ k d l. All-contains (IsPair net bids) all.0 (get_or once.0 k d) all.1.each (once.1.among (get_or once.0 k d) (contains_in once.0 k d l));
          whole = λ pair is. once.1.whole pair (all.1.whole pair (slice_get_within bids pair.0 is.bid is.at) is);
          once = once.1.once;
        },
      )
