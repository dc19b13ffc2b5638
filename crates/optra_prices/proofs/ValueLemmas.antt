-- The arcs of a walk add up to its value.
use Rattle.std.proofs.Common.{◌≡◌, ℕ, zero, suc, ◌+◌, ◌-◌, ◌≤◌, false, List, [], ◌∷◌, length, get_or, Option, Some, None, IsSomeAnd, slice_get, unwrap_or, refl, sym, ap, ◌∙◌, arith}
use Rattle.std.specs.Prelude.{ℤ, pos, ◌+ℤ◌, ◌-ℤ◌, ◌*ℤ◌}
use Rattle.std.specs.Option.{option_and_then}
use Rattle.std.proofs.lemmas.Int.{ints}
use Rattle.std.proofs.lemmas.List.Sums.{sum_by-cons}
use Rattle.std.proofs.lemmas.Option.{same_Some, get_or_from_slice_get, slice_get_within}
use Rattle.std.proofs.Math.IntN.{suc_ℤ-*ℤ, *ℤ_comm, *ℤ-zero}
use Rattle.optra_network.specs.Net.{Net, IsProper}
use Rattle.optra_bid.specs.declared.bids.Bid.{Bid}
use Rattle.optra_walk.specs.declared.Action.{Action}
use Rattle.optra_walk.specs.declared.Action.TheVariants.{Pass, Halt, Wait, Finish}
use Rattle.optra_walk.specs.declared.Leg.{Leg}
use Rattle.optra_walk.specs.Legs.{is_finish, wait_of, arrival_of}
use Rattle.optra_walk.specs.Walks.{IsWalk, IsEnd, FinishesLast, last_leg}
use Rattle.optra_walk.specs.Values.{first_departure, last_arrival, wait_minutes, price_off, price_under_way, value_of}
use Rattle.optra_walk.proofs.WalkLemmas.{arrival_later, rises}
use Rattle.optra_node.specs.Duals.{sum_of}
use Rattle.optra_node.proofs.SumLemmas.{sum_of-cons}
use Rattle.optra_walk.specs.Shares.{start_value, end_price, wait_price, action_price, leg_value}

times_suc : (z : ℤ) (n : ℕ) → z *ℤ pos (suc n) ≡ z *ℤ pos n +ℤ z
times_suc z n = *ℤ_comm z (pos (suc n)) ∙ suc_ℤ-*ℤ (pos n) z ∙ ap (λ y. y +ℤ z) (*ℤ_comm (pos n) z)

pub times_add : (z : ℤ) (m n : ℕ) → z *ℤ pos (m + n) ≡ z *ℤ pos m +ℤ z *ℤ pos n
times_add z m zero =
    let e : m + 0 ≡ m = omega arith in
    let s = ap (λ (k : ℕ). z *ℤ pos k) e in
    let o = *ℤ-zero z in
    omega (arith, ints)
times_add z m (suc n) =
    let e : m + suc n ≡ suc (m + n) = omega arith in
    let s = ap (λ (k : ℕ). z *ℤ pos k) e in
    let a = times_suc z (m + n) in
    let b = times_suc z n in
    let i = times_add z m n in
    omega (arith, ints)

times_less : (z : ℤ) (m n : ℕ) → m ≤ n → z *ℤ pos (n - m) ≡ z *ℤ pos n -ℤ z *ℤ pos m
times_less z m n l =
    let e : m + (n - m) ≡ n = omega arith in
    let s = ap (λ (k : ℕ). z *ℤ pos k) e in
    let a = times_add z m (n - m) in
    omega (arith, ints)

-- each leg but the last goes on
abbrev EndsOnce : Leg → List Leg → Type 0
EndsOnce x [] = x.action ≡ Finish
EndsOnce x (y ∷ legs) = (is_finish x.action ≡ false) × EndsOnce y legs

abbrev last_of : Leg → List Leg → Leg
last_of x [] = x
last_of x (y ∷ legs) = last_of y legs

module _ (net : Net) (bid : Bid) where
  goes_on : (arrival : Option ℕ) (action : Action) → is_finish action ≡ false → action_price bid arrival action ≡ wait_price bid (wait_of action)
  goes_on arrival Pass e = let z = *ℤ-zero bid.money.wait in ap (λ (x : ℤ). pos 1000 *ℤ x) (sym z)
  goes_on arrival (Halt dwell) e = let z = *ℤ-zero bid.money.wait in ap (λ (x : ℤ). pos 1000 *ℤ x) (sym z)
  goes_on arrival (Wait dwell) e = refl
  goes_on arrival Finish e = cc

  -- the waits of the legs, and the end of the last one
  legs_sum : (x : Leg) (legs : List Leg) → EndsOnce x legs
      → sum_of (leg_value net bid) (x ∷ legs) ≡ pos 0 -ℤ wait_price bid (wait_minutes (x ∷ legs)) -ℤ end_price bid (unwrap_or (arrival_of net bid.path.kind (last_of x legs)) 0)
  legs_sum x [] e =
      let c = sum_of-cons (leg_value net bid) x [] in
      let a = ap (action_price bid (arrival_of net bid.path.kind x)) e in
      let w = ap wait_of e in
      let n = sum_by-cons (λ (leg : Leg). wait_of leg.action) x [] in
      let none : wait_minutes (x ∷ []) ≡ 0 = omega arith in
      let z = *ℤ-zero bid.money.wait in
      let p : wait_price bid (wait_minutes (x ∷ [])) ≡ pos 0 = ap (wait_price bid) none ∙ ap (λ (y : ℤ). pos 1000 *ℤ y) z in
      omega (arith, ints)
  legs_sum x (y ∷ legs) (on, ends) =
      let c = sum_of-cons (leg_value net bid) x (y ∷ legs) in
      let i = legs_sum y legs ends in
      let a = goes_on (arrival_of net bid.path.kind x) x.action on in
      let n = sum_by-cons (λ (leg : Leg). wait_of leg.action) x (y ∷ legs) in
      let p = ap (wait_price bid) n in
      let t = times_add bid.money.wait (wait_of x.action) (wait_minutes (y ∷ legs)) in
      let q = ap (λ (z : ℤ). pos 1000 *ℤ z) t in
      omega (arith, ints)

  ends_once : (x : Leg) (legs : List Leg) (last : Leg) → FinishesLast (x ∷ legs) → slice_get (x ∷ legs) (length legs) ≡ Some last → last.action ≡ Finish
      → EndsOnce x legs × (last_of x legs ≡ last)
  ends_once x [] last h at e = let q : x ≡ last = same_Some x last at in (ap (λ (leg : Leg). leg.action) q ∙ e, q)
  ends_once x (y ∷ legs) last h at e =
      let rest = ends_once y legs last (λ k l. h (suc k) (omega arith)) at e in
      ((h zero (omega arith), rest.0), rest.1)

  module _ (proper : IsProper net) where
    -- a walk starts before it ends
    starts_before : (legs : List Leg) (last : Leg) (n : ℕ) → IsWalk net bid.path legs → slice_get legs (length legs - 1) ≡ Some last → arrival_of net bid.path.kind last ≡ Some n
        → first_departure legs ≤ n
    starts_before [] last n walk at e = absurd walk.start
    starts_before (x ∷ legs) last n walk at e =
        let l = slice_get_within (x ∷ legs) (length (x ∷ legs) - 1) last at in
        let is : get_or (x ∷ legs) (length (x ∷ legs) - 1) last ≡ last = get_or_from_slice_get (x ∷ legs) (length (x ∷ legs) - 1) last last at in
        let up = rises net bid.path.kind proper (x ∷ legs) last walk.goes_on 0 (length (x ∷ legs) - 1) (omega arith) in
        let here : 0 + (length (x ∷ legs) - 1) ≡ length (x ∷ legs) - 1 = omega arith in
        let same = ap (λ (k : ℕ). (get_or (x ∷ legs) k last).depart) here in
        let same_last = ap (λ (leg : Leg). leg.depart) is in
        let later = arrival_later net bid.path.kind last n proper e in
        omega arith

    -- the start and the legs of a walk add up to its value
    pub walk_sum : (legs : List Leg) → IsWalk net bid.path legs
        → start_value bid (first_departure legs) +ℤ sum_of (leg_value net bid) legs ≡ pos 1000 *ℤ value_of net bid.path bid.money legs
    walk_sum [] walk = absurd walk.start
    walk_sum (x ∷ legs) walk = of_leg (last_leg (x ∷ legs)) refl walk.end
      where
        of_time : (last : Leg) → last_leg (x ∷ legs) ≡ Some last → IsEnd net bid.path last → (o : Option ℕ) → arrival_of net bid.path.kind last ≡ o → IsSomeAnd o (λ n. (bid.path.arrive.from ≤ n) × (n ≤ bid.path.arrive.to))
            → start_value bid (first_departure (x ∷ legs)) +ℤ sum_of (leg_value net bid) (x ∷ legs) ≡ pos 1000 *ℤ value_of net bid.path bid.money (x ∷ legs)
        of_time last at ends None e h = absurd h
        of_time last at ends (Some n) e h =
            let place : length (x ∷ legs) - 1 ≡ length legs = omega arith in
            let here : slice_get (x ∷ legs) (length legs) ≡ Some last = ap (slice_get (x ∷ legs)) (sym place) ∙ at in
            let once = ends_once x legs last walk.finishes_last here ends.finish in
            let s = legs_sum x legs once.0 in
            let arrive : unwrap_or (arrival_of net bid.path.kind (last_of x legs)) 0 ≡ n = ap (λ (leg : Leg). unwrap_or (arrival_of net bid.path.kind leg) 0) once.1 ∙ ap (λ (o : Option ℕ). unwrap_or o 0) e in
            let end = ap (end_price bid) arrive in
            let l = starts_before (x ∷ legs) last n walk at e in
            let t = times_less bid.money.travel (first_departure (x ∷ legs)) n l in
            let to : last_arrival net bid.path.kind (x ∷ legs) ≡ n = ap (λ (o : Option Leg). unwrap_or (option_and_then (arrival_of net bid.path.kind) o) 0) at ∙ ap (λ (o : Option ℕ). unwrap_or o 0) e in
            let off = ap (λ (k : ℕ). price_off bid.path.arrive.ideal bid.money.early_arrive bid.money.late_arrive k) to in
            let way = ap (λ (k : ℕ). price_under_way bid.money.travel (k - first_departure (x ∷ legs)) bid.money.wait (wait_minutes (x ∷ legs))) to in
            omega (arith, ints)

        of_leg : (o : Option Leg) → last_leg (x ∷ legs) ≡ o → IsSomeAnd o (IsEnd net bid.path)
            → start_value bid (first_departure (x ∷ legs)) +ℤ sum_of (leg_value net bid) (x ∷ legs) ≡ pos 1000 *ℤ value_of net bid.path bid.money (x ∷ legs)
        of_leg None at h = absurd h
        of_leg (Some last) at h = of_time last at h (arrival_of net bid.path.kind last) refl h.time
