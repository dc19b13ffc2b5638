-- A table that is filled place by place, from late to early.
use Rattle.std.proofs.Common.{◌≡◌, ℕ, zero, suc, ◌+◌, ◌*◌, ◌≤◌, ◌<◌, ◌⊎◌, inl, inr, List, ◌∷◌, length, Option, None, sym, ap, ◌∙◌, Bool, true, false, ◌-◌, refl, true≢false, subst, arith, slice_set, slice_index_or}
use Rattle.std.specs.Prelude.{ℤ, ◌&&◌, nat_lt, nat_le, slice_index, if◌then◌else◌}
use Rattle.std.proofs.lemmas.Bool.{cases_lt, lt-ltb}
use Rattle.std.proofs.lemmas.Bool.Decides.{nat_tests}
use Rattle.std.proofs.Common.{get_or-set_other, get_or-set_same, ◌≢◌}
use Rattle.std.proofs.Math.ListN.{length-set}
use Rattle.std.proofs.lemmas.List.{length-map}
use Rattle.optra_network.specs.Net.{Net}
use Rattle.optra_bid.specs.declared.bids.Bid.{Bid}
use Rattle.optra_network.specs.declared.StationId.{StationId}
use Rattle.optra_bid.specs.Specs.{Path}
use Rattle.optra_rests.specs.Weights.{Weights}
use Rattle.optra_walk.specs.declared.state.State.{State}
use Rattle.optra_rests.specs.declared.states.Layout.{Layout}
use Rattle.optra_rests.specs.declared.ways.Way.{Way}
use Rattle.optra_rests.specs.Ways.{IsWay, IsOn}
use Rattle.optra_rests.specs.declared.rest_table.RestTable.{RestTable}
use Rattle.optra_rests.specs.Places.{IsPlaced, IsSmall, slot_of, spot_at, place_of, places_of}
use Rattle.optra_rests.specs.Settings.{IsSetting}
use Rattle.optra_rests.specs.Rests.{IsBestRest, AnyLeg}
use Rattle.optra_rests.specs.declared.reach.Reach.{Reach}
use Rattle.optra_rests.specs.Reaches.{from_origin, to_destination, IsReach, IsReached, WasTime, IsInTime, IsAhead, IsNear, IsWithoutFar}
use Rattle.optra_rests.specs.Tables.{IsTable, IsFilled, IsReadyFor, HasBest, entry_at, rest_at, rest_in, rests_of, end_of, is_early}
use Rattle.optra_rests.proofs.HorizonLemmas.{after_later, rest_before}
use Rattle.optra_rests.proofs.BehindLemmas.{time_after}
use Rattle.optra_rests.proofs.AheadLemmas.{rest_ahead}
use Rattle.optra_rests.proofs.ReachLemmas.{reached_after, rest_in_time, late_leg}
use Rattle.optra_rests.proofs.PlaceLemmas.{place_below, place_later, one_place, of_spot}

pub early_before : (table : RestTable) (s : State) → is_early table s ≡ true → s.minute < end_of table
early_before table s e = by (nat_lt s.minute (end_of table)) refl e
  where
    by : (b : Bool) → nat_lt s.minute (end_of table) ≡ b → (b && nat_le (s.minute + slice_index (to_destination table.reach) s.station.0) (end_of table)) ≡ true → s.minute < end_of table
    by true l h = grind (arith, nat_tests)
    by false l h = absurd (true≢false (sym h))

module _ (w : Weights) (net : Net) (bid : Bid) where
  -- at first no place is filled
  pub filled_none : (table : RestTable) → IsTable table → IsSetting net bid.path table.layout → IsReach net bid.path table.reach → IsFilled w net bid table (places_of table.layout)
  filled_none table is setting reach = record {
    is_table = is;
    setting = setting;
    reach = reach;
    each = λ s placed from reached time early. let l = place_below table.layout s placed in absurd (omega arith);
  }

  -- a state in which a train may be, and behind whose place all is filled
  pub filled_ready : (table : RestTable) (s : State) → IsPlaced table.layout s → IsFilled w net bid table (place_of table.layout s + 1) → IsReached bid.path table.reach s
      → WasTime bid.path table.reach s → IsReadyFor w net bid table s
  filled_ready table s placed h reached time = record {
    is_table = h.is_table;
    setting = h.setting;
    reach = h.reach;
    placed = placed;
    later = λ leg after move is_after there early.
        let later = after_later net bid.path h.setting.proper s after leg move is_after in
        let p = place_later table.layout s after placed there later in
        let slots = h.setting.laid.slots in
        let done = placed.done in
        let few : s.done ≤ length bid.path.stops = omega (arith, slots, done) in
        h.each after there (omega arith) (reached_after net bid.path table.reach h.reach s after leg move is_after reached)
        (time_after net bid.path table.reach h.reach s after leg few move is_after time) early;
  }

  -- a state from which the stops that are left take too long
  pub ahead_rest : (reach : Reach) (s : State) → IsReach net bid.path reach → s.done ≤ length bid.path.stops → (IsAhead bid.path reach s → ⊥) → IsBestRest w net bid s AnyLeg None
  ahead_rest reach s is few late = record { greatest = λ n c. late (rest_ahead net bid.path reach is s (c.0 ∷ c.1) few c.3.rest); size = tt }

  -- a track on which no walk may end in time
  pub late_way : (table : RestTable) (s : State) (way : Way) → IsSetting net bid.path table.layout → IsReach net bid.path table.reach → IsWay net bid.path s way → s.minute < bid.path.arrive.to
      → end_of table < way.pass + slice_index (to_destination table.reach) way.head.0 → end_of table < way.halt + slice_index (to_destination table.reach) way.head.0
      → IsBestRest w net bid s (IsOn way.track) None
  late_way table s way setting reach is before pass halt =
      let f = setting.laid.first in
      let m = setting.laid.minutes in
      record {
        greatest = λ n c. late_leg net bid.path table.reach reach s way c.0 c.1 is c.2 (omega (arith, pass, f, m, before)) (omega (arith, halt, f, m, before)) c.3.rest;
        size = tt;
      }

  -- a state that is not too late
  pub early_time : (table : RestTable) (s : State) → IsSetting net bid.path table.layout → IsPlaced table.layout s → is_early table s ≡ true → IsInTime bid.path table.reach s
  early_time table s setting placed e =
      let f = setting.laid.first in
      let m = setting.laid.minutes in
      let l = placed.late in
      let b = placed.early in
      let k : nat_le (s.minute + slice_index (to_destination table.reach) s.station.0) (end_of table) ≡ true = second (nat_lt s.minute (end_of table)) (nat_le (s.minute + slice_index (to_destination table.reach) s.station.0) (end_of table)) e in
      let n : s.minute + slice_index (to_destination table.reach) s.station.0 ≤ end_of table = grind (arith, nat_tests) in
      omega (arith, n, f, m, l, b)
    where
      second : (a b : Bool) → (a && b) ≡ true → b ≡ true
      second true b e = e
      second false b e = absurd (true≢false (sym e))

  -- a spot in which no train may be that is not too late
  pub filled_skip : (table : RestTable) (minute station : ℕ) → table.layout.first ≤ minute → station < table.layout.stations
      → ((s : State) → s.minute ≡ minute → s.station.0 ≡ station → IsReached bid.path table.reach s → IsInTime bid.path table.reach s → ⊥)
      → IsFilled w net bid table (spot_at table.layout (minute - table.layout.first) (station + 1)) → IsFilled w net bid table (spot_at table.layout (minute - table.layout.first) station)
  filled_skip table minute station from within none h = record {
    is_table = h.is_table;
    setting = h.setting;
    reach = h.reach;
    each = λ s placed behind reached time early.
        elim (cases_lt (place_of table.layout s) (spot_at table.layout (minute - table.layout.first) (station + 1))) as (λ _. HasBest w net bid table s) [
          | inl l ↦
              let is = of_spot table.layout s (minute - table.layout.first) station placed within behind l in
              let after = placed.early in
              let e = is.0 in
              absurd (none s (omega (arith, e)) is.1 reached (early_time table s h.setting placed early))
          | inr l ↦ h.each s placed l reached time early
        ];
  }

  -- the stations behind so many, to which no train comes
  pub filled_far : (table : RestTable) (minute left more : ℕ) → table.layout.first ≤ minute → left + more ≤ table.layout.stations
      → ((station : ℕ) → left ≤ station → station < left + more → IsNear bid.path (from_origin table.reach) (to_destination table.reach) station → ⊥)
      → IsFilled w net bid table (spot_at table.layout (minute - table.layout.first) (left + more)) → IsFilled w net bid table (spot_at table.layout (minute - table.layout.first) left)
  filled_far table minute left zero from within far h =
      let e : left + zero ≡ left = omega arith in
      subst (λ (n : ℕ). IsFilled w net bid table (spot_at table.layout (minute - table.layout.first) n)) e h
  filled_far table minute left (suc more) from within far h =
      let e : left + suc more ≡ left + more + 1 = omega arith in
      filled_far table minute left more from (omega (arith, within)) (λ station l b near. far station l (omega (arith, b)) near)
      (filled_skip table minute (left + more) from (omega (arith, within))
      (λ s m t reached soon.
      let near : IsNear bid.path (from_origin table.reach) (to_destination table.reach) (left + more) =
      (let p = ap (λ (n : ℕ). slice_index (from_origin table.reach) n) t in
      let q = ap (λ (n : ℕ). slice_index (to_destination table.reach) n) t in
      omega (arith, reached, soon, p, q)) in
      far (left + more) (omega arith) (omega arith) near)
      (subst (λ (n : ℕ). IsFilled w net bid table (spot_at table.layout (minute - table.layout.first) n)) e h))

  -- so many of the first stations, without the last ones that are far
  pub filled_without : (table : RestTable) (minute count left : ℕ) → table.layout.first ≤ minute → count ≤ table.layout.stations
      → IsWithoutFar bid.path (from_origin table.reach) (to_destination table.reach) count left
      → IsFilled w net bid table (spot_at table.layout (minute - table.layout.first) count) → IsFilled w net bid table (spot_at table.layout (minute - table.layout.first) left)
  filled_without table minute count left from within is h =
      let fewer = is.fewer in
      let e : count ≡ left + (count - left) = omega (arith, fewer) in
      filled_far table minute left (count - left) from (omega (arith, within, fewer))
      (λ station l b near. is.far station l (omega (arith, b, fewer)) near)
      (subst (λ (n : ℕ). IsFilled w net bid table (spot_at table.layout (minute - table.layout.first) n)) e h)

  -- a place of a state to which there was no time to come
  pub filled_past : (table : RestTable) (here : State) → IsPlaced table.layout here → (WasTime bid.path table.reach here → ⊥)
      → IsFilled w net bid table (place_of table.layout here + 1) → IsFilled w net bid table (place_of table.layout here)
  filled_past table here there past h = record {
    is_table = h.is_table;
    setting = h.setting;
    reach = h.reach;
    each = λ s placed from reached time early.
        elim (cases_lt (place_of table.layout here) (place_of table.layout s)) as (λ _. HasBest w net bid table s) [
          | inl l ↦ h.each s placed (omega (arith, l)) reached time early
          | inr l ↦
              let is : here ≡ s = one_place table.layout here s there placed (omega (arith, l, from)) in
              absurd (past (subst (WasTime bid.path table.reach) (sym is) time))
        ];
  }

  -- one more place
  pub filled_more : (table after : RestTable) (here : State) (rest : Option ℤ) → IsPlaced table.layout here → IsFilled w net bid table (place_of table.layout here + 1)
      → IsBestRest w net bid here AnyLeg rest
      → rests_of after ≡ slice_set (rests_of table) (place_of table.layout here) rest → after.layout ≡ table.layout → after.reach ≡ table.reach → IsFilled w net bid after (place_of table.layout here)
  filled_more table after here rest there h best e f g = record {
    is_table = record {
      small = subst IsSmall (sym f) h.is_table.small;
      len = let n = ap length e ∙ length-set (rests_of table) (place_of table.layout here) rest in
          let a = length-map after.rests.items rest_in in
          let b = length-map table.rests.items rest_in in
          let p = ap places_of f in
          let l = h.is_table.len in
          omega (arith, n, a, b, p, l);
      from = ap (λ (r : Reach). length (from_origin r)) g ∙ h.is_table.from ∙ ap (λ (lay : Layout). lay.stations) (sym f);
      on = ap (λ (r : Reach). length (to_destination r)) g ∙ h.is_table.on ∙ ap (λ (lay : Layout). lay.stations) (sym f);
    };
    setting = subst (IsSetting net bid.path) (sym f) h.setting;
    reach = subst (IsReach net bid.path) (sym g) h.reach;
    each = λ s placed from reached time early.
        let is : place_of after.layout s ≡ place_of table.layout s = ap (λ (lay : Layout). place_of lay s) f in
        let soon : is_early table s ≡ true = (λ i. early_by (sym f i) (sym g i) s) ∙ early in
        subst (λ (p : ℕ). IsBestRest w net bid s AnyLeg (slice_index_or (rests_of after) p None)) (sym is)
        (subst (λ (xs : List (Option ℤ)). IsBestRest w net bid s AnyLeg (slice_index_or xs (place_of table.layout s) None)) (sym e)
        (at s (subst (λ (lay : Layout). IsPlaced lay s) f placed) (cases_lt (place_of table.layout here) (place_of table.layout s)) (subst (λ (p : ℕ). place_of table.layout here ≤ p) is from) (subst (λ (r : Reach). IsReached bid.path r s) g reached)
        (subst (λ (r : Reach). WasTime bid.path r s) g time) soon));
  }
    where
      early_by : Layout → Reach → State → Bool
      early_by lay reach s = nat_lt s.minute (lay.first + lay.minutes) && nat_le (s.minute + slice_index (to_destination reach) s.station.0) (lay.first + lay.minutes)

      at : (s : State) → IsPlaced table.layout s → (place_of table.layout here < place_of table.layout s) ⊎ (place_of table.layout s ≤ place_of table.layout here) → place_of table.layout here ≤ place_of table.layout s → IsReached bid.path table.reach s
          → WasTime bid.path table.reach s → is_early table s ≡ true
          → IsBestRest w net bid s AnyLeg (slice_index_or (slice_set (rests_of table) (place_of table.layout here) rest) (place_of table.layout s) None)
      at s placed (inl m) from reached time early =
          let ne : place_of table.layout s ≢ place_of table.layout here = omega arith in
          let k : place_of table.layout here + 1 ≤ place_of table.layout s = omega arith in
          rw get_or-set_other (h.each s placed k reached time early)
      at s placed (inr m) from reached time early =
          let same : place_of table.layout here ≡ place_of table.layout s = omega arith in
          let n = h.is_table.len in
          let b = place_below table.layout here there in
          let lt : place_of table.layout here < length (rests_of table) = omega (arith, n, b, length-map table.rests.items rest_in) in
          let is : here ≡ s = one_place table.layout here s there placed same in
          let made : IsBestRest w net bid here AnyLeg (slice_index_or (slice_set (rests_of table) (place_of table.layout here) rest) (place_of table.layout here) None) = rw get_or-set_same best in
          subst (λ (p : ℕ). IsBestRest w net bid s AnyLeg (slice_index_or (slice_set (rests_of table) (place_of table.layout here) rest) p None)) same
          (subst (λ (q : State). IsBestRest w net bid q AnyLeg (slice_index_or (slice_set (rests_of table) (place_of table.layout here) rest) (place_of table.layout here) None)) is made)

  -- what the table has for a state in which a train may be: its best rest, or nothing where it is too late
  pub rest_by : (table : RestTable) (s : State) → IsReach net bid.path table.reach → IsSetting net bid.path table.layout → (is_early table s ≡ true → HasBest w net bid table s) → IsBestRest w net bid s AnyLeg (rest_at table s)
  rest_by table s reach setting best = by (is_early table s) refl
    where
      late : (s : State) → s.minute < bid.path.arrive.to → IsInTime bid.path table.reach s → table.layout.first ≡ bid.path.depart.from → table.layout.minutes ≡ bid.path.arrive.to - bid.path.depart.from
          → is_early table s ≡ false → ⊥
      late s before soon f m e =
          let l : nat_lt s.minute (end_of table) ≡ true = lt-ltb s.minute (end_of table) (omega (arith, before, f, m)) in
          let k : nat_le (s.minute + slice_index (to_destination table.reach) s.station.0) (end_of table) ≡ true = grind (arith, nat_tests) in
          true≢false (sym (λ i. l i && k i) ∙ e)

      by : (b : Bool) → is_early table s ≡ b → IsBestRest w net bid s AnyLeg (rest_at table s)
      by true e = subst (λ (b : Bool). IsBestRest w net bid s AnyLeg (if b then entry_at table (place_of table.layout s) else None)) (sym e) (best e)
      by false e = subst (λ (b : Bool). IsBestRest w net bid s AnyLeg (if b then entry_at table (place_of table.layout s) else None)) (sym e)
          (record {
            greatest = λ n c.
                let before = rest_before net bid.path setting.proper s (c.0 ∷ c.1) c.3.rest in
                let soon = rest_in_time net bid.path table.reach reach s (c.0 ∷ c.1) c.3.rest in
                let f = setting.laid.first in
                let m = setting.laid.minutes in
                late s before soon f m e;
            size = tt;
          })

-- two states of one spot
pub same_spot : (path : Path) (reach : Reach) (a b : State) → a.minute ≡ b.minute → a.station.0 ≡ b.station.0 → IsReached path reach a → IsInTime path reach a → IsReached path reach b × IsInTime path reach b
same_spot path reach a b m t from on =
    let p = ap (λ (n : ℕ). slice_index (from_origin reach) n) t in
    let q = ap (λ (n : ℕ). slice_index (to_destination reach) n) t in
    (omega (arith, from, m, p), omega (arith, on, m, q))

-- a state of a spot, by the number of its stops done and its mode
module _ (table : RestTable) (state : State) (minute : ℕ) (station : StationId) (left : ℕ) (m : state.minute ≡ minute) (t : state.station ≡ station) (k : slot_of state ≡ left - 1) (some : 0 < left) where
  pub spot_placed : left ≤ table.layout.slots → table.layout.first ≤ minute → minute < end_of table → station.0 < table.layout.stations → IsPlaced table.layout state
  spot_placed few from to within = record {
    early = omega (arith, m, from);
    late = omega (arith, m, to);
    done = omega (arith, k, some, few);
    station = subst (λ (s : StationId). s.0 < table.layout.stations) (sym t) within;
  }

  pub spot_place : place_of table.layout state ≡ spot_at table.layout (minute - table.layout.first) station.0 + (left - 1)
  spot_place = λ i. spot_at table.layout (m i - table.layout.first) (t i).0 + k i

  pub spot_next : place_of table.layout state + 1 ≡ spot_at table.layout (minute - table.layout.first) station.0 + left
  spot_next = let e = spot_place in omega (arith, e, some)

-- where the places of the next station begin
pub spot_more : (layout : Layout) (minute station : ℕ) → spot_at layout minute (station + 1) ≡ spot_at layout minute station + layout.slots
spot_more layout minute station = let e : minute * layout.stations + (station + 1) ≡ suc (minute * layout.stations + station) = omega arith in ap (λ (n : ℕ). n * layout.slots) e ∙ (omega arith)
