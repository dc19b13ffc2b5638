-- The start and the rest of a walk add up to its worth.
use Rattle.std.proofs.Common.{◌≡◌, ℕ, zero, suc, ◌+◌, ◌-◌, ◌≤◌, inl, inr, false, List, [], ◌∷◌, Option, Some, None, IsSomeAnd, unwrap_or, refl, sym, ap, ◌∙◌, subst, arith}
use Rattle.std.specs.Prelude.{ℤ, pos, ◌+ℤ◌, ◌-ℤ◌, ◌*ℤ◌}
use Rattle.std.specs.Option.{option_and_then}
use Rattle.std.proofs.lemmas.Int.{ints}
use Rattle.std.proofs.lemmas.List.Sums.{sum_by-cons}
use Rattle.std.proofs.Math.IntN.{suc_ℤ-*ℤ, *ℤ_comm, *ℤ-zero}
use Rattle.optra_network.specs.Net.{Net, IsProper, IsFromTo}
use Rattle.optra_bid.specs.declared.bids.Bid.{Bid}
use Rattle.optra_walk.specs.declared.Action.{Action}
use Rattle.optra_walk.specs.declared.Action.TheVariants.{Pass, Halt, Wait, Finish}
use Rattle.optra_walk.specs.declared.Leg.{Leg}
use Rattle.optra_walk.specs.Legs.{is_finish, wait_of, arrival_of}
use Rattle.optra_walk.specs.Values.{first_departure, last_arrival, wait_minutes, price_off, price_under_way}
use Rattle.optra_walk.proofs.WalkLemmas.{arrival_later}
use Rattle.optra_node.specs.Duals.{sum_of}
use Rattle.optra_node.proofs.SumLemmas.{sum_of-cons}
use Rattle.optra_rests.specs.Weights.{Weights, worth_of}
use Rattle.optra_walk.specs.declared.state.State.{State}
use Rattle.optra_walk.specs.Moves.{start_state, FitsAction, Runs}
use Rattle.optra_walk.specs.Shares.{start_value, end_price, wait_price, action_price, share_of}
use Rattle.optra_rests.specs.Rests.{rest_worth}
use Rattle.optra_rests.proofs.RestLemmas.{last_suc, not_finish}
use Rattle.optra_rests.proofs.HorizonLemmas.{after_later}

times_suc : (z : ℤ) (n : ℕ) → z *ℤ pos (suc n) ≡ z *ℤ pos n +ℤ z
times_suc z n = *ℤ_comm z (pos (suc n)) ∙ suc_ℤ-*ℤ (pos n) z ∙ ap (λ y. y +ℤ z) (*ℤ_comm (pos n) z)

times_add : (z : ℤ) (m n : ℕ) → z *ℤ pos (m + n) ≡ z *ℤ pos m +ℤ z *ℤ pos n
times_add z m zero =
    let e : m + 0 ≡ m = omega arith in
    let s = ap (λ (k : ℕ). z *ℤ pos k) e in
    let o = *ℤ-zero z in
    omega (arith, ints)
times_add z m (suc n) =
    let e : m + suc n ≡ suc (m + n) = omega arith in
    let s = ap (λ (k : ℕ). z *ℤ pos k) e in
    let a = times_suc z (m + n) in
    let b = times_suc z n in
    let i = times_add z m n in
    omega (arith, ints)

times_less : (z : ℤ) (m n : ℕ) → m ≤ n → z *ℤ pos (n - m) ≡ z *ℤ pos n -ℤ z *ℤ pos m
times_less z m n l =
    let e : m + (n - m) ≡ n = omega arith in
    let s = ap (λ (k : ℕ). z *ℤ pos k) e in
    let a = times_add z m (n - m) in
    omega (arith, ints)

arrival_there : (o : Option ℕ) (from to : ℕ) → IsSomeAnd o (IsFromTo from to) → (n : ℕ) × (o ≡ Some n)
arrival_there None from to h = absurd h
arrival_there (Some n) from to h = (n, refl)

module _ (w : Weights) (net : Net) (bid : Bid) where
  -- a leg that goes on takes its wait
  goes_on : (arrival : Option ℕ) (action : Action) → is_finish action ≡ false → action_price bid arrival action ≡ wait_price bid (wait_of action)
  goes_on arrival Pass e = let z = *ℤ-zero bid.money.wait in ap (λ (x : ℤ). pos 1000 *ℤ x) (sym z)
  goes_on arrival (Halt dwell) e = let z = *ℤ-zero bid.money.wait in ap (λ (x : ℤ). pos 1000 *ℤ x) (sym z)
  goes_on arrival (Wait dwell) e = refl
  goes_on arrival Finish e = cc

  later_last : (x y : Leg) (r : List Leg) → last_arrival net bid.path.kind (x ∷ y ∷ r) ≡ last_arrival net bid.path.kind (y ∷ r)
  later_last x y r = ap (λ (o : Option Leg). unwrap_or (option_and_then (arrival_of net bid.path.kind) o) 0) (last_suc x y r)

  -- the waits of the legs, the end of the last one, and what the legs cost
  pub rest_sum : (s : State) (legs : List Leg) → Runs net bid.path s legs
      → rest_worth w net bid legs ≡ pos 0 -ℤ wait_price bid (wait_minutes legs) -ℤ end_price bid (last_arrival net bid.path.kind legs) -ℤ sum_of w.cost_of legs
  rest_sum s [] h = absurd h
  rest_sum s (x ∷ []) (m, inl f) =
      let c = sum_of-cons w.cost_of x [] in
      let a : share_of net bid x ≡ end_price bid (last_arrival net bid.path.kind (x ∷ [])) = ap (action_price bid (arrival_of net bid.path.kind x)) f.0 in
      let u = ap wait_of f.0 in
      let n = sum_by-cons (λ (leg : Leg). wait_of leg.action) x [] in
      let none : wait_minutes (x ∷ []) ≡ 0 = omega arith in
      let z = *ℤ-zero bid.money.wait in
      let p : wait_price bid (wait_minutes (x ∷ [])) ≡ pos 0 = ap (wait_price bid) none ∙ ap (λ (y : ℤ). pos 1000 *ℤ y) z in
      omega (arith, ints)
  rest_sum s (x ∷ []) (m, inr f) = absurd f.2
  rest_sum s (x ∷ y ∷ r) (m, inl f) = let e = f.1 in cc
  rest_sum s (x ∷ y ∷ r) (m, inr f) =
      let c = sum_of-cons w.cost_of x (y ∷ r) in
      let i = rest_sum f.0 (y ∷ r) f.2 in
      let on = not_finish net bid.path x f.0.minute f.1.time x.action refl in
      let a : share_of net bid x ≡ wait_price bid (wait_of x.action) = goes_on (arrival_of net bid.path.kind x) x.action on in
      let n = sum_by-cons (λ (leg : Leg). wait_of leg.action) x (y ∷ r) in
      let p = ap (wait_price bid) n in
      let t = times_add bid.money.wait (wait_of x.action) (wait_minutes (y ∷ r)) in
      let q = ap (λ (z : ℤ). pos 1000 *ℤ z) t in
      let l = ap (end_price bid) (later_last x y r) in
      omega (arith, ints)

  -- a rest ends after it begins
  pub rest_arrives : IsProper net → (s : State) (legs : List Leg) → Runs net bid.path s legs → s.minute ≤ last_arrival net bid.path.kind legs
  rest_arrives proper s [] h = absurd h
  rest_arrives proper s (x ∷ []) (m, inl f) =
      let fits : FitsAction net bid.path s.done x Finish = subst (λ a. FitsAction net bid.path s.done x a) f.0 m.action in
      let at = arrival_there (arrival_of net bid.path.kind x) bid.path.arrive.from bid.path.arrive.to fits.1.time in
      let l = arrival_later net bid.path.kind x at.0 proper at.1 in
      let e : last_arrival net bid.path.kind (x ∷ []) ≡ at.0 = ap (λ (o : Option ℕ). unwrap_or o 0) at.1 in
      let d = m.time in
      omega arith
  rest_arrives proper s (x ∷ []) (m, inr f) = absurd f.2
  rest_arrives proper s (x ∷ y ∷ r) (m, inl f) = let e = f.1 in cc
  rest_arrives proper s (x ∷ y ∷ r) (m, inr f) =
      let i = rest_arrives proper f.0 (y ∷ r) f.2 in
      let l = after_later net bid.path proper s f.0 x m f.1 in
      let e = later_last x y r in
      omega arith

  -- the start and the rest
  pub walk_sum : IsProper net → (d : ℕ) (legs : List Leg) → Runs net bid.path (start_state bid.path d) legs → first_departure legs ≡ d
      → start_value bid d +ℤ rest_worth w net bid legs ≡ worth_of w net bid legs
  walk_sum proper d legs h first =
      let s = rest_sum (start_state bid.path d) legs h in
      let l = rest_arrives proper (start_state bid.path d) legs h in
      let t = times_less bid.money.travel d (last_arrival net bid.path.kind legs) l in
      let v = ap (λ (k : ℕ). pos 1000 *ℤ (bid.money.base
      -ℤ price_off bid.path.depart.ideal bid.money.early_depart bid.money.late_depart k
      -ℤ price_off bid.path.arrive.ideal bid.money.early_arrive bid.money.late_arrive (last_arrival net bid.path.kind legs)
      -ℤ price_under_way bid.money.travel (last_arrival net bid.path.kind legs - k) bid.money.wait (wait_minutes legs))) first in
      omega (arith, ints)
