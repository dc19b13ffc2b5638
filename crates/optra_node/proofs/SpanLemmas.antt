-- The spans of a walk's legs tile the time from its start on.
use Rattle.std.proofs.Common.{◌≡◌, ℕ, zero, suc, ◌+◌, ◌-◌, ◌≤◌, ◌<◌, false, List, [], ◌∷◌, length, get_or, Option, Some, None, IfSome, IsSomeAnd, refl, sym, ap, ◌∙◌, subst, arith, inl, inr}
use Rattle.std.specs.Prelude.{All, Contains}
use Rattle.std.proofs.lemmas.List.Elements.{Contains-get_or}
use Rattle.std.proofs.lemmas.Option.{get_or_from_slice_get, slice_get-get_or}
use Rattle.std.proofs.lemmas.Bool.{cases_lt}
use Rattle.optra_network.specs.Net.{Net, IsProper}
use Rattle.optra_bid.specs.Specs.{Path}
use Rattle.optra_bid.specs.declared.bids.Bid.{Bid}
use Rattle.optra_walk.specs.declared.Leg.{Leg}
use Rattle.optra_walk.specs.Legs.{next_depart_of, after_action, arrival_of}
use Rattle.optra_walk.specs.Walks.{IsWalk, IsStart, IsEnd, first_leg, last_leg}
use Rattle.optra_walk.specs.Values.{first_departure}
use Rattle.optra_walk.specs.Families.{Rows}
use Rattle.optra_walk.proofs.WalkLemmas.{rises}
use Rattle.optra_node.specs.declared.Decision.{Decision}
use Rattle.optra_node.specs.Nodes.{IsAllowed}
use Rattle.optra_node.specs.Spans.{HoldsMinute, Lets, IsLegOk, IsStartOk}

module _ (net : Net) (proper : IsProper net) (path : Path) (legs : List Leg) (walk : IsWalk net path legs) where
  -- the walk has a first leg, whose departure is its first departure
  starts : (0 < length legs) × ((d : Leg) → first_departure legs ≡ (get_or legs 0 d).depart)
  starts = by legs walk.start
    where
      by : (legs : List Leg) → IsSomeAnd (first_leg legs) (IsStart net path) → (0 < length legs) × ((d : Leg) → first_departure legs ≡ (get_or legs 0 d).depart)
      by [] h = absurd h
      by (leg ∷ legs) h = (omega arith, λ d. refl)

  -- the next departure of each leg but the last is the departure of the next one
  next_is : (d : Leg) (k : ℕ) → k + 1 < length legs → next_depart_of net path.kind (get_or legs k d) ≡ Some (get_or legs (k + 1) d).depart
  next_is d k l = (walk.goes_on k d (omega arith)).time

  -- the last leg has none
  last_has_none : (d : Leg) → next_depart_of net path.kind (get_or legs (length legs - 1) d) ≡ None
  last_has_none d = by (last_leg legs) refl walk.end
    where
      by : (o : Option Leg) → last_leg legs ≡ o → IsSomeAnd o (IsEnd net path) → next_depart_of net path.kind (get_or legs (length legs - 1) d) ≡ None
      by None e h = absurd h
      by (Some last) e h =
          let is : get_or legs (length legs - 1) d ≡ last = get_or_from_slice_get legs (length legs - 1) last d e in
          ap (next_depart_of net path.kind) is ∙ ap (λ a. after_action a (arrival_of net path.kind last)) h.finish

  -- a leg departs before each later one
  before : (d : Leg) (j k : ℕ) → j < k → k < length legs → (get_or legs j d).depart < (get_or legs k d).depart
  before d j k l m =
      let r = rises net path.kind proper legs d walk.goes_on j (k - j) (omega arith) in
      let e : j + (k - j) ≡ k = omega arith in
      let s = ap (λ (n : ℕ). (get_or legs n d).depart) e in
      omega arith

  holds : (leg : Leg) (minute : ℕ) (o : Option ℕ) → next_depart_of net path.kind leg ≡ o → leg.depart ≤ minute → IfSome o (λ next. minute < next) → HoldsMinute net path.kind leg minute
  holds leg minute o e l h = record { from = l; to = subst (λ o. IfSome o (λ next. minute < next)) (sym e) h }

  -- a minute between the start and the departure of a leg is in the span of one before
  tile : (d : Leg) (minute k : ℕ) → (get_or legs 0 d).depart ≤ minute → minute < (get_or legs k d).depart → k < length legs
      → (j : ℕ) × (j < length legs) × HoldsMinute net path.kind (get_or legs j d) minute
  tile d minute zero l m n = absurd (omega arith)
  tile d minute (suc k) l m n = elim (cases_lt minute (get_or legs k d).depart) as (λ _. (j : ℕ) × (j < length legs) × HoldsMinute net path.kind (get_or legs j d) minute) [
    | inl earlier ↦ tile d minute k l earlier (omega arith)
    | inr here ↦
        let next : ℕ = (get_or legs (k + 1) d).depart in
        let at : k + 1 ≡ suc k = omega arith in
        let same = ap (λ (n : ℕ). (get_or legs n d).depart) at in
        (k, omega arith, holds (get_or legs k d) minute (Some next) (next_is d k (omega arith)) here (omega arith))
  ]

  -- so each minute from the start on is in the span of some leg
  pub some_holds : (d : Leg) (minute : ℕ) → first_departure legs ≤ minute → (j : ℕ) × (j < length legs) × HoldsMinute net path.kind (get_or legs j d) minute
  some_holds d minute l =
      let s = starts in
      let first = s.1 d in
      let some = s.0 in
      elim (cases_lt minute (get_or legs (length legs - 1) d).depart) as (λ _. (j : ℕ) × (j < length legs) × HoldsMinute net path.kind (get_or legs j d) minute) [
        | inl earlier ↦ tile d minute (length legs - 1) (omega arith) earlier (omega arith)
        | inr here ↦ (length legs - 1, omega arith, holds (get_or legs (length legs - 1) d) minute None (last_has_none d) here tt)
      ]

  -- and of one alone
  pub one_holds : (d : Leg) (j k : ℕ) → j < length legs → k < length legs → HoldsMinute net path.kind (get_or legs j d) (get_or legs k d).depart → j ≡ k
  one_holds d j k l m h = elim (cases_lt j k) as (λ _. j ≡ k) [
    | inl less ↦
        let to = subst (λ o. IfSome o (λ next. (get_or legs k d).depart < next)) (next_is d j (omega arith)) h.to in
        let r = at_most (j + 1) in
        absurd (omega arith)
    | inr more ↦ elim (cases_lt k j) as (λ _. j ≡ k) [
      | inl less ↦ let b = before d k j less l in let f = h.from in absurd (omega arith)
      | inr more' ↦ omega arith
    ]
  ]
    where
      at_most : (i : ℕ) → i ≤ k → (get_or legs i d).depart ≤ (get_or legs k d).depart
      at_most i q =
          let r = rises net path.kind proper legs d walk.goes_on i (k - i) (omega arith) in
          let e : i + (k - i) ≡ k = omega arith in
          let s = ap (λ (n : ℕ). (get_or legs n d).depart) e in
          omega arith

  pub first_before : (d : Leg) (k : ℕ) → k < length legs → first_departure legs ≤ (get_or legs k d).depart
  first_before d k l =
      let r = rises net path.kind proper legs d walk.goes_on 0 k (omega arith) in
      let e : 0 + k ≡ k = omega arith in
      let s = ap (λ (n : ℕ). (get_or legs n d).depart) e in
      let f = starts.1 d in
      omega arith

module _ {R : Type 0} (net : Net) (proper : IsProper net) (rows : Rows R) (bids : List Bid) (node : List Decision) (number : ℕ) (bid : Bid) (legs : List Leg) (walk : IsWalk net bid.path legs) where
  -- an allowed walk passes the tests
  pub tests_pass : IsAllowed net rows bids node number bid legs → IsStartOk node number (first_departure legs) × All (IsLegOk net rows bids node number bid.path.kind) legs
  tests_pass allowed = (start, leg_ok)
    where
      start : IsStartOk node number (first_departure legs)
      start k d l same q = by ((allowed.decided k d l same).yes q)
        where
          by : Contains legs (get_or node k d).leg → first_departure legs ≤ (get_or node k d).leg.depart
          by (i, m, e) =
              let b = first_before net proper bid.path legs walk (get_or node k d).leg i m in
              let s = ap (λ (leg : Leg). leg.depart) e in
              omega arith

      lets : (i : ℕ) (c : Leg) → i < length legs → (k : ℕ) (d : Decision) → k < length node → (get_or node k d).bid ≡ number → Lets net bid.path.kind (get_or node k d) (get_or legs i c)
      lets i c m k d l same = record {
        yes = λ yes h. by ((allowed.decided k d l same).yes yes) h;
        no = λ no e. (allowed.decided k d l same).no no (subst (Contains legs) e (Contains-get_or legs i c m));
      }
        where
          by : Contains legs (get_or node k d).leg → HoldsMinute net bid.path.kind (get_or legs i c) (get_or node k d).leg.depart → get_or legs i c ≡ (get_or node k d).leg
          by (j, n, e) h =
              let x : Leg = (get_or node k d).leg in
              let at : get_or legs j c ≡ x = get_or_from_slice_get legs j (get_or legs j x) c (slice_get-get_or legs j x n) ∙ e in
              let h' = subst (λ (leg : Leg). HoldsMinute net bid.path.kind (get_or legs i c) leg.depart) (sym at) h in
              ap (λ (n : ℕ). get_or legs n c) (one_holds net proper bid.path legs walk c i j m n h') ∙ at

      leg_ok : All (IsLegOk net rows bids node number bid.path.kind) legs
      leg_ok i c m = record { let_by = lets i c m; free = allowed.free i c m }

  -- and a walk that passes them is allowed
  pub passes_allowed : IsStartOk node number (first_departure legs) × All (IsLegOk net rows bids node number bid.path.kind) legs → IsAllowed net rows bids node number bid legs
  passes_allowed (start, leg_ok) = record {
    walk = walk;
    decided = λ k d l same. record {
      yes = λ yes.
          let x : Leg = (get_or node k d).leg in
          let h = some_holds net proper bid.path legs walk x x.depart (start k d l same yes) in
          (h.0, h.1, ((leg_ok h.0 x h.1).let_by k d l same).yes yes h.2);
      no = λ no c. lacks k d l same no c;
    };
    free = λ i c m. (leg_ok i c m).free;
  }
    where
      lacks : (k : ℕ) (d : Decision) → k < length node → (get_or node k d).bid ≡ number → (get_or node k d).yes ≡ false → Contains legs (get_or node k d).leg → ⊥
      lacks k d l same q (i, m, e) = ((leg_ok i (get_or node k d).leg m).let_by k d l same).no q e
