-- The best walks by their starts.
use Rattle.std.proofs.Common.{◌≡◌, ℕ, ◌+◌, ◌≤◌, ◌<◌, ◌⊎◌, inl, inr, true, false, List, [], ◌∷◌, Option, None, Some, refl, sym, ap, ◌∙◌, subst, arith, true≢false}
use Rattle.std.specs.Prelude.{ℤ, ◌+ℤ◌, ◌≤ℤ◌}
use Rattle.std.proofs.lemmas.Int.{ints}
use Rattle.std.proofs.lemmas.Bool.{cases_lt}
use Rattle.optra_network.specs.Net.{Net, IsProper, IsFromTo}
use Rattle.optra_bid.specs.declared.bids.Bid.{Bid}
use Rattle.optra_walk.specs.declared.Leg.{Leg}
use Rattle.optra_walk.specs.Values.{first_departure}
use Rattle.optra_rests.specs.Weights.{Weights, IsOpenWalk, worth_of, IsBestWorth, IsWorthSize}
use Rattle.optra_walk.specs.declared.state.State.{State}
use Rattle.optra_rests.specs.declared.rest_table.RestTable.{RestTable}
use Rattle.optra_rests.specs.Places.{IsPlaced}
use Rattle.optra_walk.specs.Moves.{start_state, Runs}
use Rattle.optra_walk.specs.Shares.{start_value, IsAdded}
use Rattle.optra_rests.specs.Rests.{IsOpenRest, IsRestWorth, IsGreatestOf, IsRestSize, IsBestRest, AnyLeg, greater_of, rest_worth}
use Rattle.optra_rests.specs.Sizes.{IsWholeRest}
use Rattle.optra_rests.specs.Starts.{IsStartWorth, IsBestStart, IsAt, IsBefore}
use Rattle.optra_rests.specs.Tables.{IsFilled, rest_at, end_of}
use Rattle.optra_rests.proofs.BestLemmas.{same_greatest, both_greatest, greater_has}
use Rattle.optra_rests.proofs.FillLemmas.{rest_by, early_before}
use Rattle.optra_rests.proofs.BehindLemmas.{time_start}
use Rattle.optra_rests.proofs.ReachLemmas.{reached_start}
use Rattle.optra_rests.proofs.RestLemmas.{rest_of_walk, walk_of_rest}
use Rattle.optra_rests.proofs.ValueLemmas.{walk_sum}

module _ (w : Weights) (net : Net) (bid : Bid) where
  -- the state in which a walk begins has a place, where the table has minutes for it
  pub start_placed : (table : RestTable) (minute : ℕ) → IsFilled w net bid table 0 → IsFromTo bid.path.depart.from bid.path.depart.to minute → minute < end_of table → IsPlaced table.layout (start_state bid.path minute)
  start_placed table minute h within l =
      let first = h.setting.laid.first in
      let slots = h.setting.laid.slots in
      let stations = h.setting.laid.stations in
      let origin = h.setting.origin in
      let from = within.0 in
      record { early = omega arith; late = l; done = omega (arith, slots); station = omega (arith, stations) }

  -- what a filled table has for it
  pub start_rest : (table : RestTable) (minute : ℕ) → IsFilled w net bid table 0 → IsFromTo bid.path.depart.from bid.path.depart.to minute
      → IsBestRest w net bid (start_state bid.path minute) AnyLeg (rest_at table (start_state bid.path minute))
  start_rest table minute h within =
      rest_by w net bid table (start_state bid.path minute) h.reach h.setting
      (λ early. h.each (start_state bid.path minute) (start_placed table minute h within (early_before table (start_state bid.path minute) early)) (omega arith) (reached_start net bid.path table.reach h.reach (start_state bid.path minute) refl within.0)
      (time_start net bid.path table.reach h.reach minute within.0) early)

  -- a start and a rest behind it
  pub start_open : (minute : ℕ) → w.may_start minute ≡ true → IsFromTo bid.path.depart.from bid.path.depart.to minute → (leg : Leg) (rest : List Leg)
      → IsOpenRest w net bid.path (start_state bid.path minute) (leg ∷ rest) → IsOpenWalk w net bid.path (leg ∷ rest)
  start_open minute may within leg rest h = record {
    walk = walk_of_rest net bid.path (leg ∷ rest) minute within h.rest;
    start = ap w.may_start h.rest.0.time ∙ may;
    each = h.each;
  }

  -- a walk that starts at the minute is such a start and rest
  open_start : (minute : ℕ) (legs : List Leg) → first_departure legs ≡ minute → IsOpenWalk w net bid.path legs → IsOpenRest w net bid.path (start_state bid.path minute) legs
  open_start minute legs at h = record {
    rest = subst (λ (m : ℕ). Runs net bid.path (start_state bid.path m) legs) at (rest_of_walk net bid.path legs h.walk).1;
    each = h.each;
  }

  worth_at : (s : State) (legs : List Leg) → IsOpenRest w net bid.path s legs → IsRestWorth w net bid s AnyLeg (rest_worth w net bid legs)
  worth_at s [] h = absurd h.rest
  worth_at s (leg ∷ rest) h = (leg, rest, tt, h, refl)

  add_most : (a m n : ℤ) → m ≤ℤ n → (a +ℤ m) ≤ℤ (a +ℤ n)
  add_most a m n h = omega (arith, ints)

  size_with : (minute : ℕ) (a r : ℤ) → IsAdded a → IsRestSize minute r → IsWorthSize (a +ℤ r)
  size_with minute a r h k = let a0 = h.0 in let a1 = h.1 in let r0 = k.0 in let r1 = k.1 in (omega (arith, ints), omega (arith, ints))

  pub start_best : (minute : ℕ) (r n : ℤ) → IsProper net → w.may_start minute ≡ true → IsFromTo bid.path.depart.from bid.path.depart.to minute → IsAdded (start_value bid minute)
      → IsBestRest w net bid (start_state bid.path minute) AnyLeg (Some r) → n ≡ start_value bid minute +ℤ r → IsBestStart w net bid (IsAt minute) (Some n)
  start_best minute r n proper may within range h e = record {
    greatest = record {
      reached = reach h.greatest.reached;
      most = λ m c.
          let ok = open_start minute c.0 c.1 c.2 in
          let l = h.greatest.most (rest_worth w net bid c.0) (worth_at (start_state bid.path minute) c.0 ok) in
          let s = walk_sum w net bid proper minute c.0 ok.rest c.1 in
          let k = add_most (start_value bid minute) (rest_worth w net bid c.0) r l in
          let f = c.3 in
          omega (arith, ints, e, f, s, k);
    };
    size = subst IsWorthSize (sym e) (size_with minute (start_value bid minute) r range h.size);
  }
    where
      reach : IsRestWorth w net bid (start_state bid.path minute) AnyLeg r → IsStartWorth w net bid (IsAt minute) n
      reach c = (
        c.0 ∷ c.1,
        c.3.rest.0.time,
        start_open minute may within c.0 c.1 c.3,
        e ∙ ap (λ (z : ℤ). start_value bid minute +ℤ z) c.4 ∙ walk_sum w net bid proper minute (c.0 ∷ c.1) c.3.rest c.3.rest.0.time,
      )

  pub start_no_rest : (minute : ℕ) → IsBestRest w net bid (start_state bid.path minute) AnyLeg None → IsBestStart w net bid (IsAt minute) None
  start_no_rest minute h = record { greatest = λ n c. h.greatest (rest_worth w net bid c.0) (worth_at (start_state bid.path minute) c.0 (open_start minute c.0 c.1 c.2)); size = tt }

  pub start_refused : (minute : ℕ) → w.may_start minute ≡ false → IsBestStart w net bid (IsAt minute) None
  start_refused minute refused = record { greatest = λ n c. true≢false (sym c.2.start ∙ ap w.may_start c.1 ∙ refused); size = tt }

  -- ---- minute by minute

  pub starts_begin : IsBestStart w net bid (IsBefore bid.path.depart.from) None
  starts_begin = record { greatest = λ n c. let within = (rest_of_walk net bid.path c.0 c.2.walk).0.0 in let before = c.1 in omega arith; size = tt }

  pub starts_push : (minute : ℕ) (a b : Option ℤ) → IsBestStart w net bid (IsBefore minute) a → IsBestStart w net bid (IsAt minute) b → IsBestStart w net bid (IsBefore (minute + 1)) (greater_of a b)
  starts_push minute a b h k = record {
    greatest = same_greatest (λ n. IsStartWorth w net bid (IsBefore minute) n ⊎ IsStartWorth w net bid (IsAt minute) n) (IsStartWorth w net bid (IsBefore (minute + 1)))
        (λ n e. elim e [ inl c ↦ (c.0, up (first_departure c.0) c.1, c.2, c.3) | inr c ↦ (c.0, here (first_departure c.0) c.1, c.2, c.3) ])
        (λ n c. elim (cases_lt (first_departure c.0) minute) as (λ _. IsStartWorth w net bid (IsBefore minute) n ⊎ IsStartWorth w net bid (IsAt minute) n) [
          | inl l ↦ inl (c.0, l, c.2, c.3)
          | inr l ↦ inr (c.0, last (first_departure c.0) l c.1, c.2, c.3)
        ])
        (greater_of a b) (both_greatest (IsStartWorth w net bid (IsBefore minute)) (IsStartWorth w net bid (IsAt minute)) a b h.greatest k.greatest);
    size = greater_has IsWorthSize a b h.size k.size;
  }
    where
      up : (m : ℕ) → m < minute → m < minute + 1
      up m l = omega arith

      here : (m : ℕ) → m ≡ minute → m < minute + 1
      here m e = omega arith

      last : (m : ℕ) → minute ≤ m → m < minute + 1 → m ≡ minute
      last m l u = omega arith

  -- after the departure window all walks are there
  pub starts_all : (minute : ℕ) (o : Option ℤ) → bid.path.depart.to < minute → IsBestStart w net bid (IsBefore minute) o → IsBestWorth w net bid o
  starts_all minute o over h = by o h.greatest
    where
      before : (legs : List Leg) → IsOpenWalk w net bid.path legs → first_departure legs < minute
      before legs ok = let within = (rest_of_walk net bid.path legs ok.walk).0.1 in omega arith

      by : (o : Option ℤ) → IsGreatestOf (IsStartWorth w net bid (IsBefore minute)) o → IsBestWorth w net bid o
      by None g = λ legs ok. g (worth_of w net bid legs) (legs, before legs ok, ok, refl)
      by (Some n) g = record {
        reached = (g.reached.0, g.reached.2, g.reached.3);
        most = λ m c. g.most m (c.0, before c.0 c.1, c.1, c.2);
      }

pub rest_whole : (minute : ℕ) (r : ℤ) → IsRestSize minute r → IsWholeRest r
rest_whole minute r h = (let a = h.0 in omega (arith, ints), h.1)
