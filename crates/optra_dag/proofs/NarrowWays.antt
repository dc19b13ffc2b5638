-- The sums of the nodes, by the arcs from the last one to the first, and the first best way by them.
use Rattle.std.proofs.Common.{◌≡◌, ℕ, zero, suc, ◌+◌, ◌-◌, ◌*◌, ◌<◌, ◌≤◌, ◌⊎◌, inl, inr, Bool, true, false, List, [], ◌∷◌, ◌++◌, append_assoc, append-nil, length, get_or, set, refl, sym, ap, ◌∙◌, subst, arith, ℤ, pos, negsuc, neg_ℤ, ◌+ℤ◌, ◌≤ℤ◌, ◌<ℤ◌, get_or-set_other, get_or-set_same, length-set, w64, FitsSigned}
use Rattle.std.proofs.lemmas.Bool.{cases_lt, cases_eq}
use Rattle.std.proofs.lemmas.List.{get_or_past}
use Rattle.std.proofs.Math.Nat.{mul-le-mul_left, eq-or-lt_of_le}
use Rattle.std.proofs.lemmas.Int.{ints}
use Rattle.optra_dag.specs.Paths.{Graph, IsPath, IsFirstBest, LeadsToEnd, from_of, to_of, weight_of, ComesFirst}
use Rattle.optra_dag.specs.WaySums.{open_graph, plain_graph, StartsFrom}
use Rattle.optra_dag.specs.Spans.{StandsIn, IsSpan, span_of}
use Rattle.optra_dag.specs.NarrowSums.{far, IsWithin, IsFar, value_of, arc_value, sum_by, CanBeSummed, IsBestOf, LeavesFrom, IsBestFrom, IsFirstBy, empty_sum, AreEmptySums, AreBestFrom, IsReached, IsUnreached, IsSummed, reach_of, IsFirstWay, IsNarrow, HasSums, IsOver}
use Rattle.optra_dag.specs.declared.Arc.{Arc}
use Rattle.optra_dag.proofs.Ways.{nil_first, less_first, same_first, way_of_path, path_of_way}

-- ---- numbers

le_le : (a b c : ℤ) → a ≤ℤ b → b ≤ℤ c → a ≤ℤ c
le_le a b c h l = omega (arith, ints)

le_same : (a b : ℤ) → a ≡ b → a ≤ℤ b
le_same a b h = omega (arith, ints)

le_both : (a b : ℤ) → a ≤ℤ b → b ≤ℤ a → a ≡ b
le_both a b h l = omega (arith, ints)

plus_le : (w a b : ℤ) → a ≤ℤ b → (w +ℤ a) ≤ℤ (w +ℤ b)
plus_le w a b l = omega (arith, ints)

-- what is added is the same, so the rest is
rest_same : (w a b t : ℤ) → (w +ℤ a) ≡ t → a ≤ℤ b → (w +ℤ b) ≤ℤ t → a ≡ b
rest_same w a b t e l h = omega (arith, ints)

within_plus : (a b c : ℕ) (w z : ℤ) → (a + b) ≤ c → IsWithin a w → IsWithin b z → IsWithin c (w +ℤ z)
within_plus a b c w z l f h = record { low = omega (arith, ints, h.low, f.low); high = omega (arith, ints, h.high, f.high) }

-- a sum within reach isn't far below
apart : (r : ℕ) (z : ℤ) → r ≤ 1152921504606846976 → neg_ℤ (pos r) ≤ℤ z → z ≤ℤ (far +ℤ pos r) → ⊥
apart r z s h l = omega (arith, ints)

shut_far : (b c : ℕ) (z : ℤ) → b ≤ c → z ≤ℤ pos b → (far +ℤ z) ≤ℤ (far +ℤ pos c)
shut_far b c z l h = omega (arith, ints)

open_far : (a b c : ℕ) (w z : ℤ) → (a + b) ≤ c → IsWithin a w → z ≤ℤ (far +ℤ pos b) → (w +ℤ z) ≤ℤ (far +ℤ pos c)
open_far a b c w z l f h = omega (arith, ints, f.high)

below_zero : (b : ℕ) (z : ℤ) → b ≤ 1152921504606846976 → z ≤ℤ (far +ℤ pos b) → z ≤ℤ pos b
below_zero b z s h = omega (arith, ints)

far_below : (b : ℕ) (z : ℤ) → b ≤ 1152921504606846976 → IsWithin b z → far ≤ℤ z
far_below b z l f = omega (arith, ints, f.low)

fits_shut : (z : ℤ) → far ≤ℤ z → z ≤ℤ pos 1152921504606846976 → FitsSigned w64 (far +ℤ z)
fits_shut z l h = omega (arith, ints)

fits_open : (most : ℕ) (w z : ℤ) → most ≤ 1152921504606846976 → IsWithin most w → far ≤ℤ z → z ≤ℤ pos 1152921504606846976 → FitsSigned w64 (w +ℤ z)
fits_open most w z s f l h = omega (arith, ints, f.low, f.high)

up_to : (b : ℕ) (z : ℤ) → b ≤ 1152921504606846976 → z ≤ℤ pos b → z ≤ℤ pos 1152921504606846976
up_to b z l h = omega (arith, ints)

low_of_zero : (r : ℕ) (z : ℤ) → pos 0 ≤ℤ z → neg_ℤ (pos r) ≤ℤ z
low_of_zero r z h = omega (arith, ints)

within_zero : (r : ℕ) (z : ℤ) → z ≡ pos 0 → IsWithin r z
within_zero r z e = record { low = omega (arith, ints); high = omega (arith, ints) }

far_start : (r : ℕ) (z : ℤ) → z ≡ far → z ≤ℤ (far +ℤ pos r)
far_start r z e = omega (arith, ints)

far_zero : far ≤ℤ pos 0
far_zero = omega (arith, ints)

not_far : (r : ℕ) (z : ℤ) → r ≤ 1152921504606846976 → IsFar r z → negsuc 2305843009213693951 ≤ℤ z → ⊥
not_far r z l f h = omega (arith, ints, f.high)

not_low : (r : ℕ) (z : ℤ) → r ≤ 1152921504606846976 → IsWithin r z → z <ℤ negsuc 2305843009213693951 → ⊥
not_low r z l f h = omega (arith, ints, f.low)

one_more : (most y z : ℕ) → 1 + y ≤ z → most + most * y ≤ most * z
one_more most y z l = let p : most * (1 + y) ≤ most * z = mul-le-mul_left most l in omega arith

-- a node that is no end is none either where the path from node 0 may not be empty
pub stays_shut : (ends : List Bool) (n : ℕ) → get_or ends n false ≡ false → get_or (set ends 0 false) n false ≡ false
stays_shut ends n shut = by (cases_eq n 0)
  where
    by : (n ≡ 0) ⊎ (n ≡ 0 → ⊥) → get_or (set ends 0 false) n false ≡ false
    by (inr off) = get_or-set_other ends 0 n false false off ∙ shut
    by (inl e) = subst (λ i. get_or (set ends 0 false) i false ≡ false) (sym e) (first (cases_lt 0 (length ends)))
      where
        first : (0 < length ends) ⊎ (length ends ≤ 0) → get_or (set ends 0 false) 0 false ≡ false
        first (inl l) = get_or-set_same ends 0 false false l
        first (inr l) = get_or_past (set ends 0 false) 0 false (let s = length-set ends 0 false in omega arith)

-- ---- the sums

module _ (arcs : List Arc) (ends : List Bool) (starts : List ℕ) (allows : ℕ → Bool) (weight : ℕ → ℤ) (most : ℕ) (narrow : IsNarrow arcs ends starts allows weight most) where
  abbrev opened : Graph
  opened = open_graph arcs ends

  abbrev value : ℕ → ℤ
  value = arc_value allows weight

  abbrev reach : ℕ → ℕ
  reach = reach_of most ends

  abbrev by_arc : List ℤ → ℕ → ℤ
  by_arc sums = sum_by arcs value sums

  abbrev sum_at : List ℤ → ℕ → ℤ
  sum_at sums n = get_or sums n (pos 0)

  abbrev Reached : List ℤ → ℕ → Type 0
  Reached sums n = IsReached opened allows weight (reach n) n (sum_at sums n)

  abbrev Summed : List ℤ → ℕ → Type 0
  Summed sums n = IsSummed opened allows weight reach sums n

  nodes : length (set ends 0 false) ≡ length ends
  nodes = length-set ends 0 false

  small : (n : ℕ) → reach n ≤ 1152921504606846976
  small n =
      let l : length ends - n ≤ length ends = omega arith in
      let m : most * (length ends - n) ≤ most * length ends = mul-le-mul_left most l in
      let r = narrow.room in
      omega arith

  most_small : most ≤ 1152921504606846976
  most_small =
      let s = narrow.forward.start in
      let r = narrow.room in
      let m : most + most * 0 ≤ most * length ends = one_more most 0 (length ends) (omega arith) in
      omega arith

  to_small : (k : ℕ) → k < length arcs → to_of opened k < length ends
  to_small k l = narrow.forward.nodes k l

  up : (k : ℕ) → k < length arcs → from_of opened k < to_of opened k
  up k l = narrow.forward.forward k l

  falls : (k : ℕ) → k < length arcs → most + reach (to_of opened k) ≤ reach (from_of opened k)
  falls k l =
      let u = up k l in
      let b = to_small k l in
      one_more most (length ends - to_of opened k) (length ends - from_of opened k) (omega arith)

  at_most_reach : (n : ℕ) (sums : List ℤ) → Summed sums n → sum_at sums n ≤ℤ pos (reach n)
  at_most_reach n sums (inl h) = below_zero (reach n) (sum_at sums n) (small n) h.below.high
  at_most_reach n sums (inr h) = h.within.high

  at_least_far : (n : ℕ) (sums : List ℤ) → Summed sums n → far ≤ℤ sum_at sums n
  at_least_far n sums (inl h) = h.below.low
  at_least_far n sums (inr h) = far_below (reach n) (sum_at sums n) (small n) h.within

  by_of : (sums : List ℤ) (k : ℕ) (b : Bool) → allows k ≡ b → by_arc sums k ≡ value_of b (weight k) +ℤ sum_at sums (to_of opened k)
  by_of sums k b e = ap (λ a. value_of a (weight k) +ℤ sum_at sums (to_of opened k)) e

  fits_by : (sums : List ℤ) (k : ℕ) → k < length arcs → (b : Bool) → allows k ≡ b → Summed sums (to_of opened k) → FitsSigned w64 (by_arc sums k)
  fits_by sums k lk true e h = subst (λ z. FitsSigned w64 z) (sym (by_of sums k true e))
      (fits_open most (weight k) (sum_at sums (to_of opened k)) most_small (narrow.weights k lk e) (at_least_far (to_of opened k) sums h) (up_to (reach (to_of opened k)) (sum_at sums (to_of opened k)) (small (to_of opened k)) (at_most_reach (to_of opened k) sums h)))
  fits_by sums k lk false e h = subst (λ z. FitsSigned w64 z) (sym (by_of sums k false e))
      (fits_shut (sum_at sums (to_of opened k)) (at_least_far (to_of opened k) sums h) (up_to (reach (to_of opened k)) (sum_at sums (to_of opened k)) (small (to_of opened k)) (at_most_reach (to_of opened k) sums h)))

  -- the node that an arc of a later node leads to is done
  head_summed : (sums : List ℤ) (from k : ℕ) → k < length arcs → from ≤ from_of opened k + 1 → HasSums arcs ends allows weight most sums from → Summed sums (to_of opened k)
  head_summed sums from k lk l h = let u = up k lk in let b = to_small k lk in let n = nodes in h (to_of opened k) (omega arith) (omega arith)

  span_at : (n : ℕ) → n < length ends → IsSpan arcs n (span_of starts (length arcs) n)
  span_at n l = narrow.started.each n

  own_arc : (n k : ℕ) → n < length ends → StandsIn (span_of starts (length arcs) n) k → k < length arcs
  own_arc n k l s = let w = (span_at n l).within in let b : k < (span_of starts (length arcs) n).stop = s.1 in omega arith

  pub can_be_summed : (sums : List ℤ) (from n : ℕ) → length sums ≡ length ends → n < length ends → from ≤ n + 1 → HasSums arcs ends allows weight most sums from
      → (k : ℕ) → StandsIn (span_of starts (length arcs) n) k → CanBeSummed arcs value sums k
  can_be_summed sums from n ls l lf h k s =
      let lk = own_arc n k l s in
      let e : from_of opened k ≡ n = (span_at n l).own k s in
      let t = to_small k lk in
      record {
        arc = lk;
        head = omega arith;
        fits = fits_by sums k lk (allows k) refl (head_summed sums from k lk (omega arith) h);
      }

  -- an arc that leads nowhere
  abbrev IsShut : List ℤ → ℕ → Type 0
  IsShut sums k = by_arc sums k ≤ℤ (far +ℤ pos (reach (from_of opened k)))

  -- an arc that a way may begin with
  abbrev IsOpen : List ℤ → ℕ → Type 0
  IsOpen sums k = (allows k ≡ true) × Reached sums (to_of opened k) × (by_arc sums k ≡ weight k +ℤ sum_at sums (to_of opened k)) × IsWithin (reach (from_of opened k)) (by_arc sums k)

  reach_down : (k : ℕ) → k < length arcs → reach (to_of opened k) ≤ reach (from_of opened k)
  reach_down k lk = let f = falls k lk in omega arith

  shut_by : (sums : List ℤ) (k : ℕ) → k < length arcs → allows k ≡ false → Summed sums (to_of opened k) → IsShut sums k
  shut_by sums k lk e h = subst (λ z. z ≤ℤ (far +ℤ pos (reach (from_of opened k)))) (sym (by_of sums k false e))
      (shut_far (reach (to_of opened k)) (reach (from_of opened k)) (sum_at sums (to_of opened k)) (reach_down k lk) (at_most_reach (to_of opened k) sums h))

  open_by : (sums : List ℤ) (k : ℕ) → k < length arcs → allows k ≡ true → Reached sums (to_of opened k) → IsOpen sums k
  open_by sums k lk e h = (
    e,
    h,
    by_of sums k true e,
    subst (λ z. IsWithin (reach (from_of opened k)) z) (sym (by_of sums k true e)) (within_plus most (reach (to_of opened k)) (reach (from_of opened k)) (weight k) (sum_at sums (to_of opened k)) (falls k lk) (narrow.weights k lk e) h.within),
  )

  shut_or_open : (sums : List ℤ) (k : ℕ) → k < length arcs → Summed sums (to_of opened k) → IsShut sums k ⊎ IsOpen sums k
  shut_or_open sums k lk h = by (allows k) refl h
    where
      by : (b : Bool) → allows k ≡ b → Summed sums (to_of opened k) → IsShut sums k ⊎ IsOpen sums k
      by false e h = inl (shut_by sums k lk e h)
      by true e (inl h) = inl (subst (λ z. z ≤ℤ (far +ℤ pos (reach (from_of opened k)))) (sym (by_of sums k true e))
          (open_far most (reach (to_of opened k)) (reach (from_of opened k)) (weight k) (sum_at sums (to_of opened k)) (falls k lk) (narrow.weights k lk e) h.below.high))
      by true e (inr h) = inr (open_by sums k lk e h)

  -- the arc that a way begins with is open
  begins : (sums : List ℤ) (k : ℕ) (r : List ℕ) → k < length arcs → allows k ≡ true → LeadsToEnd opened allows (to_of opened k) r → Summed sums (to_of opened k) → IsOpen sums k
  begins sums k r lk e leads (inl h) = absurd (h.none r leads)
  begins sums k r lk e leads (inr h) = open_by sums k lk e h

  -- the sum of a way is at most the sum by its first arc
  at_most_by : (sums : List ℤ) (k : ℕ) (r : List ℕ) → IsOpen sums k → LeadsToEnd opened allows (to_of opened k) r → weight_of weight (k ∷ r) ≤ℤ by_arc sums k
  at_most_by sums k r on leads = subst (λ z. weight_of weight (k ∷ r) ≤ℤ z) (sym on.2) (plus_le (weight k) (weight_of weight r) (sum_at sums (to_of opened k)) (on.1.greatest r leads))

  -- ---- the best sum of one node

  module _ (sums : List ℤ) (n : ℕ) (inside : n < length ends) (done : HasSums arcs ends allows weight most sums (n + 1)) (best : ℤ)
      (is_best : IsBestOf (by_arc sums) (empty_sum (get_or (set ends 0 false) n false)) (span_of starts (length arcs) n) best) where
    abbrev is_end : Bool
    is_end = get_or (set ends 0 false) n false

    empty_at : (b : Bool) → is_end ≡ b → empty_sum b ≤ℤ best
    empty_at b e = subst (λ a. empty_sum a ≤ℤ best) e is_best.empty_most

    at_least : (b : Bool) → empty_sum b ≤ℤ best → far ≤ℤ best
    at_least true h = le_le _ _ _ far_zero h
    at_least false h = h

    head : (k : ℕ) → k < length arcs → from_of opened k ≡ n → Summed sums (to_of opened k)
    head k lk e = head_summed sums (n + 1) k lk (omega arith) done

    -- the best is at least the sum of each way, and within reach where there is one
    bounds : (q : List ℕ) → LeadsToEnd opened allows n q → (neg_ℤ (pos (reach n)) ≤ℤ best) × (weight_of weight q ≤ℤ best)
    bounds [] leads = let h = empty_at true leads in (low_of_zero (reach n) best h, h)
    bounds (k ∷ r) leads =
        let lk = leads.0 in
        let e : from_of opened k ≡ n = leads.2 in
        let on = begins sums k r lk leads.1 leads.3 (head k lk e) in
        let low : neg_ℤ (pos (reach n)) ≤ℤ by_arc sums k = subst (λ m. neg_ℤ (pos (reach m)) ≤ℤ by_arc sums k) e on.3.low in
        let most : by_arc sums k ≤ℤ best = is_best.most k ((span_at n inside).whole k lk e) in
        (le_le _ _ _ low most, le_le _ _ _ (at_most_by sums k r on leads.3) most)

    unreached : best ≤ℤ (far +ℤ pos (reach n)) → IsUnreached opened allows (reach n) n best
    unreached h = record {
      below = record { low = at_least is_end is_best.empty_most; high = h };
      none = λ q leads. apart (reach n) best (small n) (bounds q leads).0 h;
    }

    reached : IsWithin (reach n) best → (p : List ℕ) → LeadsToEnd opened allows n p → weight_of weight p ≡ best → IsReached opened allows weight (reach n) n best
    reached h p leads e = record { within = h; way = (p, leads, e); greatest = λ q l. (bounds q l).1 }

    -- the best is the empty way's sum
    by_empty : (b : Bool) → is_end ≡ b → best ≡ empty_sum b → IsUnreached opened allows (reach n) n best ⊎ IsReached opened allows weight (reach n) n best
    by_empty true e t = inr (reached (within_zero (reach n) best t) [] e (sym t))
    by_empty false e t = inl (unreached (far_start (reach n) best t))

    by_one : (k : ℕ) → k < length arcs → from_of opened k ≡ n → by_arc sums k ≡ best → IsShut sums k ⊎ IsOpen sums k → IsUnreached opened allows (reach n) n best ⊎ IsReached opened allows weight (reach n) n best
    by_one k lk e t (inl off) = inl (unreached (subst (λ m. best ≤ℤ (far +ℤ pos (reach m))) e (subst (λ z. z ≤ℤ (far +ℤ pos (reach (from_of opened k)))) t off)))
    by_one k lk e t (inr on) = inr (reached (subst (λ m. IsWithin (reach m) best) e (subst (λ z. IsWithin (reach (from_of opened k)) z) t on.3))
        (k ∷ on.1.way.0) (lk, on.0, e, on.1.way.1) (ap (λ z. weight k +ℤ z) on.1.way.2 ∙ sym on.2 ∙ t))

    node_summed : IsUnreached opened allows (reach n) n best ⊎ IsReached opened allows weight (reach n) n best
    node_summed = by is_best.one
      where
        by : (best ≡ empty_sum is_end) ⊎ ((k : ℕ) × StandsIn (span_of starts (length arcs) n) k × (by_arc sums k ≡ best)) → IsUnreached opened allows (reach n) n best ⊎ IsReached opened allows weight (reach n) n best
        by (inl t) = by_empty is_end refl t
        by (inr t) = let lk = own_arc n t.0 inside t.1 in let e : from_of opened t.0 ≡ n = (span_at n inside).own t.0 t.1 in
            by_one t.0 lk e t.2 (shut_or_open sums t.0 lk (head t.0 lk e))

  pub none_summed : (sums : List ℤ) (j : ℕ) → j ≡ length ends → HasSums arcs ends allows weight most sums j
  none_summed sums j e m lm bm = let n = nodes in absurd (omega arith)

  -- ---- the sums by the arcs from the last one on

  abbrev empty_at_node : ℕ → ℤ
  empty_at_node n = empty_sum (get_or (set ends 0 false) n false)

  pub best_none : (sums : List ℤ) (k : ℕ) → length arcs ≤ k → AreEmptySums ends sums (length ends) → AreBestFrom arcs ends value sums k
  best_none sums k l empty n inside = record {
    empty_most = le_same _ _ (sym (empty n inside));
    most = λ j s. let a : k ≤ j = s.0 in let b : j < length arcs = s.1 in absurd (omega arith);
    one = inl (empty n inside);
  }

  -- a node whose arcs are all done
  whole_best : (sums : List ℤ) (k n : ℕ) → n < length ends → ((j : ℕ) → j < length arcs → from_of opened j ≡ n → k ≤ j)
      → IsBestFrom arcs (by_arc sums) (empty_at_node n) k n (sum_at sums n) → IsBestOf (by_arc sums) (empty_at_node n) (span_of starts (length arcs) n) (sum_at sums n)
  whole_best sums k n inside late h = record {
    empty_most = h.empty_most;
    most = λ j s. let lj = own_arc n j inside s in let e = (span_at n inside).own j s in h.most j (late j lj e, lj, e);
    one = by h.one;
  }
    where
      by : (sum_at sums n ≡ empty_at_node n) ⊎ ((j : ℕ) × LeavesFrom arcs k n j × (by_arc sums j ≡ sum_at sums n))
          → (sum_at sums n ≡ empty_at_node n) ⊎ ((j : ℕ) × StandsIn (span_of starts (length arcs) n) j × (by_arc sums j ≡ sum_at sums n))
      by (inl e) = inl e
      by (inr t) = inr (t.0, (span_at n inside).whole t.0 t.1.1 t.1.2, t.2)

  -- one more node
  more_summed : (sums : List ℤ) (n : ℕ) (inside : n < length ends) → HasSums arcs ends allows weight most sums (n + 1)
      → IsBestOf (by_arc sums) (empty_at_node n) (span_of starts (length arcs) n) (sum_at sums n) → HasSums arcs ends allows weight most sums n
  more_summed sums n inside done best m lm bm = by (cases_eq m n)
    where
      by : (m ≡ n) ⊎ (m ≡ n → ⊥) → Summed sums m
      by (inl e) = subst (λ i. Summed sums i) (sym e) (node_summed sums n inside done (sum_at sums n) best)
      by (inr off) = done m (omega (arith, off)) bm

  -- the nodes from one on whose arcs are all done
  pub all_summed : (sums : List ℤ) (k from : ℕ) → from ≤ length ends → ((j : ℕ) → j < length arcs → from ≤ from_of opened j → k ≤ j)
      → AreBestFrom arcs ends value sums k → HasSums arcs ends allows weight most sums from
  all_summed sums k from l late best = down (length ends - from) from (omega arith) (omega arith)
    where
      down : (m n : ℕ) → n + m ≡ length ends → from ≤ n → HasSums arcs ends allows weight most sums n
      down zero n e f = none_summed sums n (omega arith)
      down (suc m) n e f =
          let inside : n < length ends = omega arith in
          more_summed sums n inside (down m (n + 1) (omega arith) (omega arith))
          (whole_best sums k n inside (λ j lj t. late j lj (let s : from ≤ n = f in omega (arith, t))) (best n inside))

  -- when the arcs after one are done, so is the node that it leads to
  next_summed : (sums : List ℤ) (k a : ℕ) → a + 1 ≡ k → a < length arcs → AreBestFrom arcs ends value sums k → Summed sums (to_of opened a)
  next_summed sums k a e la best =
      let u = up a la in
      let b = to_small a la in
      head_summed sums (from_of opened a + 1) a la (omega arith)
      (all_summed sums k (from_of opened a + 1) (omega arith) (λ j lj t. late j lj t (cases_lt a j)) best)
    where
      late : (j : ℕ) → j < length arcs → from_of opened a + 1 ≤ from_of opened j → (a < j) ⊎ (j ≤ a) → k ≤ j
      late j lj t (inl l) = omega arith
      late j lj t (inr l) = let s = narrow.forward.sorted j a l la in absurd (omega arith)

  pub fits_next : (sums : List ℤ) (k a : ℕ) → a + 1 ≡ k → a < length arcs → AreBestFrom arcs ends value sums k → FitsSigned w64 (by_arc sums a)
  fits_next sums k a e la best = fits_by sums a la (allows a) refl (next_summed sums k a e la best)

  -- the sum at the node that an arc leaves bears on none of the arcs from it on
  same_by : (sums : List ℤ) (a j : ℕ) (r : ℤ) → a ≤ j → j < length arcs → by_arc (set sums (from_of opened a) r) j ≡ by_arc sums j
  same_by sums a j r l lj =
      let s = narrow.forward.sorted a j l lj in
      let u = up j lj in
      ap (λ z. value j +ℤ z) (get_or-set_other sums (from_of opened a) (to_of opened j) r (pos 0) (λ e. absurd (omega (arith, e))))

  -- one more arc
  module _ (sums : List ℤ) (k a : ℕ) (r : ℤ) (next : a + 1 ≡ k) (la : a < length arcs) (long : length sums ≡ length ends) (best : AreBestFrom arcs ends value sums k)
      (old : sum_at sums (from_of opened a) ≤ℤ r) (new : by_arc sums a ≤ℤ r) (which : (r ≡ sum_at sums (from_of opened a)) ⊎ (r ≡ by_arc sums a)) where
    abbrev left : ℕ
    left = from_of opened a

    abbrev after : List ℤ
    after = set sums left r

    left_inside : left < length ends
    left_inside = let u = up a la in let b = to_small a la in omega arith

    wider : (n j : ℕ) → LeavesFrom arcs k n j → LeavesFrom arcs a n j
    wider n j s = (let l : k ≤ j = s.0 in omega arith, s.1, s.2)

    picked : (r ≡ sum_at sums left) ⊎ (r ≡ by_arc sums a) → (r ≡ empty_at_node left) ⊎ ((j : ℕ) × LeavesFrom arcs a left j × (by_arc after j ≡ r))
    picked (inr e) = inr (a, (omega arith, la, refl), same_by sums a a r (omega arith) la ∙ sym e)
    picked (inl e) = by (best left left_inside).one
      where
        by : (sum_at sums left ≡ empty_at_node left) ⊎ ((j : ℕ) × LeavesFrom arcs k left j × (by_arc sums j ≡ sum_at sums left)) → (r ≡ empty_at_node left) ⊎ ((j : ℕ) × LeavesFrom arcs a left j × (by_arc after j ≡ r))
        by (inl t) = inl (e ∙ t)
        by (inr t) = inr (t.0, wider left t.0 t.1, same_by sums a t.0 r (wider left t.0 t.1).0 t.1.1 ∙ t.2 ∙ sym e)

    at_most : (j : ℕ) → LeavesFrom arcs a left j → by_arc after j ≤ℤ r
    at_most j s = subst (λ z. z ≤ℤ r) (sym (same_by sums a j r s.0 s.1)) (by (eq-or-lt_of_le s.0))
      where
        by : (a ≡ j) ⊎ (a < j) → by_arc sums j ≤ℤ r
        by (inl e) = subst (λ i. by_arc sums i ≤ℤ r) e new
        by (inr l) = le_le _ _ _ ((best left left_inside).most j (omega arith, s.1, s.2)) old

    here : IsBestFrom arcs (by_arc after) (empty_at_node left) a left r
    here = record {
      empty_most = le_le _ _ _ (best left left_inside).empty_most old;
      most = at_most;
      one = picked which;
    }

    further : (n j : ℕ) → (n ≡ left → ⊥) → LeavesFrom arcs a n j → LeavesFrom arcs k n j
    further n j off s = (by (eq-or-lt_of_le s.0), s.1, s.2)
      where
        by : (a ≡ j) ⊎ (a < j) → k ≤ j
        by (inl e) = absurd (off (sym s.2 ∙ ap (λ i. from_of opened i) (sym e)))
        by (inr l) = omega arith

    others : (n : ℕ) → n < length ends → (n ≡ left → ⊥) → IsBestFrom arcs (by_arc after) (empty_at_node n) a n (sum_at sums n)
    others n inside off = record {
      empty_most = (best n inside).empty_most;
      most = λ j s. subst (λ z. z ≤ℤ sum_at sums n) (sym (same_by sums a j r s.0 s.1)) ((best n inside).most j (further n j off s));
      one = by (best n inside).one;
    }
      where
        by : (sum_at sums n ≡ empty_at_node n) ⊎ ((j : ℕ) × LeavesFrom arcs k n j × (by_arc sums j ≡ sum_at sums n)) → (sum_at sums n ≡ empty_at_node n) ⊎ ((j : ℕ) × LeavesFrom arcs a n j × (by_arc after j ≡ sum_at sums n))
        by (inl t) = inl t
        by (inr t) = inr (t.0, wider n t.0 t.1, same_by sums a t.0 r (wider n t.0 t.1).0 t.1.1 ∙ t.2)

    pub best_next : AreBestFrom arcs ends value after a
    best_next n inside = by (cases_eq n left)
      where
        by : (n ≡ left) ⊎ (n ≡ left → ⊥) → IsBestFrom arcs (by_arc after) (empty_at_node n) a n (sum_at after n)
        by (inl e) = subst (λ i. IsBestFrom arcs (by_arc after) (empty_at_node i) a i (sum_at after i)) (sym e)
            (subst (λ z. IsBestFrom arcs (by_arc after) (empty_at_node left) a left z) (sym (get_or-set_same sums left r (pos 0) (let l = left_inside in omega arith))) here)
        by (inr off) = subst (λ z. IsBestFrom arcs (by_arc after) (empty_at_node n) a n z) (sym (get_or-set_other sums left n r (pos 0) off)) (others n inside off)

  -- ---- arcs of nodes that are no ends

  -- the arcs from k on are done; the node of the first of them is known, where there is one
  abbrev IsAtNode : ℕ → ℕ → Type 0
  IsAtNode k node = (k ≡ length arcs) ⊎ (from_of opened k ≡ node)

  -- before an arc, the sum of its node is that of the node at hand, or far below
  pub sum_before : (sums : List ℤ) (k a node : ℕ) → a + 1 ≡ k → a < length arcs → AreBestFrom arcs ends value sums k → IsAtNode k node
      → get_or ends (from_of opened a) false ≡ false → (from_of opened a ≡ node → ⊥) → sum_at sums (from_of opened a) ≡ far
  sum_before sums k a node e la best at shut off = by (best (from_of opened a) inside).one
    where
      inside : from_of opened a < length ends
      inside = let u = up a la in let b = to_small a la in omega arith

      none : (j : ℕ) → LeavesFrom arcs k (from_of opened a) j → IsAtNode k node → ⊥
      none j l (inl t) = let f : k ≤ j = l.0 in let m : j < length arcs = l.1 in omega arith
      none j l (inr t) =
          let m : j < length arcs = l.1 in
          let own : from_of opened j ≡ from_of opened a = l.2 in
          let low = narrow.forward.sorted a k (omega arith) (let f : k ≤ j = l.0 in omega arith) in
          let high = narrow.forward.sorted k j l.0 m in
          off (omega arith)

      is_shut : get_or (set ends 0 false) (from_of opened a) false ≡ false
      is_shut = stays_shut ends (from_of opened a) shut

      by : (sum_at sums (from_of opened a) ≡ empty_at_node (from_of opened a)) ⊎ ((j : ℕ) × LeavesFrom arcs k (from_of opened a) j × (by_arc sums j ≡ sum_at sums (from_of opened a))) → sum_at sums (from_of opened a) ≡ far
      by (inl t) = t ∙ ap empty_sum is_shut
      by (inr t) = absurd (none t.0 t.1 at)

  pub before_is : (sums : List ℤ) (k a node : ℕ) (best r : ℤ) → a + 1 ≡ k → a < length arcs → AreBestFrom arcs ends value sums k → IsAtNode k node
      → get_or ends (from_of opened a) false ≡ false → best ≡ sum_at sums node → (from_of opened a ≡ node → r ≡ best) → ((from_of opened a ≡ node → ⊥) → r ≡ far)
      → r ≡ sum_at sums (from_of opened a)
  before_is sums k a node best r e la done at shut is same other = by (cases_eq (from_of opened a) node)
    where
      by : (from_of opened a ≡ node) ⊎ (from_of opened a ≡ node → ⊥) → r ≡ sum_at sums (from_of opened a)
      by (inl t) = same t ∙ is ∙ ap (sum_at sums) (sym t)
      by (inr off) = other off ∙ sym (sum_before sums k a node e la done at shut off)

  pub from_inside : (a : ℕ) → a < length arcs → from_of opened a < length ends
  from_inside a la = let u = up a la in let b = to_small a la in omega arith

  -- ---- the path by the sums

  -- a way of the greatest sum begins with an arc that gives it, and goes on with a way of the greatest sum
  record IsTight (sums : List ℤ) (n k : ℕ) (r : List ℕ) : Type 0 where
    begun_by : IsOpen sums k
    gives : by_arc sums k ≡ sum_at sums n
    rest : weight_of weight r ≡ sum_at sums (to_of opened k)
    stands : StandsIn (span_of starts (length arcs) n) k

  -- the sum by an open arc is the sum of a way, and so at most the node's
  by_at_most : (sums : List ℤ) (n k : ℕ) → k < length arcs → from_of opened k ≡ n → Reached sums n → IsOpen sums k → by_arc sums k ≤ℤ sum_at sums n
  by_at_most sums n k lk e h on = subst (λ z. z ≤ℤ sum_at sums n) (ap (λ z. weight k +ℤ z) on.1.way.2 ∙ sym on.2)
      (h.greatest (k ∷ on.1.way.0) (lk, on.0, e, on.1.way.1))

  tight : (sums : List ℤ) (n k : ℕ) (r : List ℕ) → n < length ends → HasSums arcs ends allows weight most sums 0 → Reached sums n
      → LeadsToEnd opened allows n (k ∷ r) → weight_of weight (k ∷ r) ≡ sum_at sums n → IsTight sums n k r
  tight sums n k r l done h leads e =
      let lk = leads.0 in
      let on = begins sums k r lk leads.1 leads.3 (head_summed sums 0 k lk (omega arith) done) in
      let least : sum_at sums n ≤ℤ by_arc sums k = subst (λ z. z ≤ℤ by_arc sums k) e (at_most_by sums k r on leads.3) in
      let most = by_at_most sums n k lk leads.2 h on in
      let gives = le_both _ _ most least in
      record {
        begun_by = on;
        gives = gives;
        rest = rest_same (weight k) (weight_of weight r) (sum_at sums (to_of opened k)) (sum_at sums n) e (on.1.greatest r leads.3) (le_same _ _ (sym on.2 ∙ gives));
        stands = (span_at n l).whole k lk leads.2;
      }

  abbrev Over : List ℤ → ℕ → Type 0
  Over sums n = IsOver ends sums n

  -- where the path doesn't end, an arc of the node gives its sum
  pub some_gives : (sums : List ℤ) (n : ℕ) → n < length ends → HasSums arcs ends allows weight most sums 0 → Reached sums n → (Over sums n → ⊥)
      → (k : ℕ) × StandsIn (span_of starts (length arcs) n) k × (by_arc sums k ≡ sum_at sums n)
  some_gives sums n l done h on = by h.way.0 h.way.1 h.way.2
    where
      by : (p : List ℕ) → LeadsToEnd opened allows n p → weight_of weight p ≡ sum_at sums n → (k : ℕ) × StandsIn (span_of starts (length arcs) n) k × (by_arc sums k ≡ sum_at sums n)
      by [] leads e = absurd (on (leads, sym e))
      by (k ∷ r) leads e = let t = tight sums n k r l done h leads e in (k, t.stands, t.gives)

  module _ (sums : List ℤ) (n k : ℕ) (inside : n < length ends) (done : HasSums arcs ends allows weight most sums 0) (h : Reached sums n)
      (first : IsFirstBy (by_arc sums) (span_of starts (length arcs) n) (sum_at sums n) k) where
    lk : k < length arcs
    lk = own_arc n k inside first.stands

    leaves : from_of opened k ≡ n
    leaves = (span_at n inside).own k first.stands

    on : IsOpen sums k
    on = by (shut_or_open sums k lk (head_summed sums 0 k lk (omega arith) done))
      where
        by : IsShut sums k ⊎ IsOpen sums k → IsOpen sums k
        by (inr o) = o
        by (inl off) = absurd (apart (reach n) (sum_at sums n) (small n) h.within.low
            (subst (λ m. sum_at sums n ≤ℤ (far +ℤ pos (reach m))) leaves (subst (λ z. z ≤ℤ (far +ℤ pos (reach (from_of opened k)))) first.gives off)))

    pub next_reached : Reached sums (to_of opened k)
    next_reached = on.1

    pub next_inside : to_of opened k < length ends
    next_inside = to_small k lk

    pub next_later : n < to_of opened k
    next_later = subst (λ m. m < to_of opened k) leaves (up k lk)

    pub next_way : (Over sums n → ⊥) → (p : List ℕ) → IsFirstWay opened allows weight (to_of opened k) (sum_at sums (to_of opened k)) p → IsFirstWay opened allows weight n (sum_at sums n) (k ∷ p)
    next_way unfinished p w = record {
      leads = (lk, on.0, leaves, w.leads);
      sum = ap (λ z. weight k +ℤ z) w.sum ∙ sym on.2 ∙ first.gives;
      greatest = h.greatest;
      first = λ q leads e. before q leads e;
    }
      where
        before : (q : List ℕ) → LeadsToEnd opened allows n q → weight_of weight q ≡ sum_at sums n → ComesFirst (k ∷ p) q
        before [] leads e = absurd (unfinished (leads, sym e))
        before (a ∷ r) leads e = by (cases_lt a k)
          where
            t : IsTight sums n a r
            t = tight sums n a r inside done h leads e

            same : (k ≡ a) ⊎ (k < a) → ComesFirst (k ∷ p) (a ∷ r)
            same (inr l) = less_first k a p r l
            same (inl s) = subst (λ i. ComesFirst (k ∷ p) (i ∷ r)) s (same_first k p r (w.first r
                (subst (λ i. LeadsToEnd opened allows (to_of opened i) r) (sym s) leads.3) (subst (λ i. weight_of weight r ≡ sum_at sums (to_of opened i)) (sym s) t.rest)))

            by : (a < k) ⊎ (k ≤ a) → ComesFirst (k ∷ p) (a ∷ r)
            by (inl l) = absurd (first.first a t.stands l t.gives)
            by (inr l) = same (eq-or-lt_of_le l)

    -- the path so far, with one more arc
    pub next_before : (Over sums n → ⊥) → (path : List ℕ)
        → ((p : List ℕ) → IsFirstWay opened allows weight n (sum_at sums n) p → IsFirstWay opened allows weight 0 (sum_at sums 0) (path ++ p))
        → (p : List ℕ) → IsFirstWay opened allows weight (to_of opened k) (sum_at sums (to_of opened k)) p → IsFirstWay opened allows weight 0 (sum_at sums 0) ((path ++ k ∷ []) ++ p)
    next_before unfinished path before p w = subst (λ q. IsFirstWay opened allows weight 0 (sum_at sums 0) q) (sym (append_assoc path (k ∷ []) p)) (before (k ∷ p) (next_way unfinished p w))

  pub begun : (sums : List ℤ) (path : List ℕ) → path ≡ [] → (p : List ℕ) → IsFirstWay opened allows weight 0 (sum_at sums 0) p → IsFirstWay opened allows weight 0 (sum_at sums 0) (path ++ p)
  begun sums path e p w = subst (λ q. IsFirstWay opened allows weight 0 (sum_at sums 0) (q ++ p)) (sym e) w

  -- the path ends
  pub finished : (sums : List ℤ) (n : ℕ) (path : List ℕ) → Over sums n → Reached sums n
      → ((p : List ℕ) → IsFirstWay opened allows weight n (sum_at sums n) p → IsFirstWay opened allows weight 0 (sum_at sums 0) (path ++ p))
      → IsFirstWay opened allows weight 0 (sum_at sums 0) path
  finished sums n path over h before = subst (λ q. IsFirstWay opened allows weight 0 (sum_at sums 0) q) (append-nil path)
      (before [] (record { leads = over.0; sum = sym over.1; greatest = h.greatest; first = λ q leads e. nil_first q }))

  -- ---- the answer

  pub start_reached : (sums : List ℤ) → HasSums arcs ends allows weight most sums 0 → negsuc 2305843009213693951 ≤ℤ sum_at sums 0 → Reached sums 0
  start_reached sums done high = let s = narrow.forward.start in let n = nodes in by (done 0 (omega arith) (omega arith))
    where
      by : Summed sums 0 → Reached sums 0
      by (inl h) = absurd (not_far (reach 0) (sum_at sums 0) (small 0) h.below high)
      by (inr h) = h

  pub no_path : (sums : List ℤ) (sum : ℤ) → sum ≡ sum_at sums 0 → HasSums arcs ends allows weight most sums 0 → sum <ℤ negsuc 2305843009213693951
      → (path : List ℕ) → IsPath (plain_graph arcs ends) allows path → ⊥
  no_path sums sum e done low path p = let s = narrow.forward.start in let n = nodes in by (done 0 (omega arith) (omega arith))
    where
      by : Summed sums 0 → ⊥
      by (inl h) = h.none path (way_of_path arcs ends allows weight narrow.forward path p).leads
      by (inr h) = not_low (reach 0) (sum_at sums 0) (small 0) h.within (subst (λ z. z <ℤ negsuc 2305843009213693951) e low)

  pub first_best : (sums : List ℤ) (sum : ℤ) (path : List ℕ) → sum ≡ sum_at sums 0 → IsFirstWay opened allows weight 0 (sum_at sums 0) path → IsFirstBest (plain_graph arcs ends) allows weight sum path
  first_best sums sum path e w = record {
    path = path_of_way arcs ends allows weight narrow.forward path (record { leads = w.leads; late = late path });
    sum = w.sum ∙ sym e;
    greatest = λ q p. subst (λ z. weight_of weight q ≤ℤ z) (sym e) (w.greatest q (way_of_path arcs ends allows weight narrow.forward q p).leads);
    first = λ q p t. w.first q (way_of_path arcs ends allows weight narrow.forward q p).leads (t ∙ e);
  }
    where
      late : (p : List ℕ) → StartsFrom 0 p
      late [] = tt
      late (a ∷ p) = omega arith
