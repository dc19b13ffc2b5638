-- Prices of rows by number, of which few move.
use Rattle.std.proofs.Common.{◌≡◌, ◌≢◌, ℕ, zero, suc, ◌+◌, ◌-◌, ◌*◌, ◌<◌, ◌≤◌, ◌⊎◌, Bool, true, false, Vec, Global, List, [], ◌∷◌, ◌++◌, length, map, set, get_or, replicate, refl, sym, ap, ◌∙◌, subst, arith, inl, inr}
use Rattle.std.specs.Prelude.{All, Contains, ℤ, pos, negsuc, ◌+ℤ◌, ◌-ℤ◌, ◌*ℤ◌, slice_index, slice_index_or}
use Rattle.std.proofs.lemmas.Bool.{cases_eq, cases_lt}
use Rattle.std.proofs.lemmas.Int.{ints}
use Rattle.std.proofs.lemmas.List.{length-replicate, length-set, length-take-le, get_or-set_same, get_or-set_other, get_or-take, get_or_default, get_or_past, get_or_append_left, length-append}
use Rattle.std.proofs.Math.Seq.{get_or-append_seam}
use Rattle.std.specs.List.{swap_remove}
use Rattle.std.proofs.lemmas.List.Elements.{All-head, All-tail, All-map, All-push, All-replicate, All-weaker, All-contains, Contains-push, Contains-append_left, Contains-get_or}
use Rattle.std.proofs.lemmas.Nat.{mul-le}
use Rattle.std.proofs.Math.IntN.{pos-*ℤ-pos, zero-*ℤ}
use Rattle.optra_bid.specs.Specs.{IsBetween}
use Rattle.optra_node.proofs.LoadLemmas.{contains_cases, contains_head, contains_later}
use Rattle.optra_prices.specs.Loads.{RowLoads, SetsUses}
use Rattle.optra_prices.specs.Levels.{IsLevels, IsIdle, IsLeft, StandOnce, AreUnused, IsMove, GoesOn, MovesRow, MovesTo, HoldsPrices, moved_by, price_of, use_of, capacity_of, is_listed}
use Rattle.optra_prices.specs.Listings.{capacity_below}
use Rattle.optra_prices.specs.Tables.{IsRowPrice}
use Rattle.optra_prices.specs.declared.levels.Levels.{Levels}
use Rattle.optra_prices.proofs.ListingLemmas.{row_price_or}
use Rattle.optra_prices.proofs.ValueOfLemmas.{set_at, set_elsewhere, set_count, zeros_at}

-- ---- the price of all capacity
product_range : (price : ℤ) (capacity : ℕ) → IsRowPrice price → capacity ≤ 65535 → IsBetween (pos 0) (pos 131070000000000000) (price *ℤ pos capacity)
product_range (pos p) capacity h small =
    let top : p ≤ 2000000000000 = let u = h.1 in omega (arith, ints) in
    let product : p * capacity ≤ 2000000000000 * 65535 = mul-le p capacity 2000000000000 65535 top small in
    subst (IsBetween (pos 0) (pos 131070000000000000)) (sym (pos-*ℤ-pos p capacity)) (omega (arith, ints), omega (arith, ints))
product_range (negsuc p) capacity h small = absurd (let low = h.0 in omega (arith, ints))

pub small_at : (capacities : List ℕ) (k : ℕ) → All (λ capacity. capacity ≤ 65535) capacities → slice_index capacities k ≤ 65535
small_at [] k small = omega arith
small_at (c ∷ capacities) zero small = small 0 0 (omega arith)
small_at (c ∷ capacities) (suc k) small = small_at capacities k (All-tail (λ (capacity : ℕ). capacity ≤ 65535) c capacities small)

pub capacity_range : (prices : List ℤ) (capacities : List ℕ) (n : ℕ) → All IsRowPrice prices → All (λ capacity. capacity ≤ 65535) capacities
    → IsBetween (pos 0) (pos (131070000000000000 * n)) (capacity_below prices capacities n)
capacity_range prices capacities zero range small = (omega (arith, ints), omega (arith, ints))
capacity_range prices capacities (suc n) range small =
    let here = product_range (slice_index_or prices n (pos 0)) (slice_index capacities n) (row_price_or prices n range) (small_at capacities n small) in
    let before = capacity_range prices capacities n range small in
    let a = here.0 in
    let b = here.1 in
    let d = before.0 in
    let e = before.1 in
    (omega (arith, ints), omega (arith, ints))

-- a price that is set counts for nothing below it
set_above : (prices : List ℤ) (capacities : List ℕ) (k : ℕ) (x : ℤ) (n : ℕ) → n ≤ k → capacity_below (set prices k x) capacities n ≡ capacity_below prices capacities n
set_above prices capacities k x zero l = refl
set_above prices capacities k x (suc n) l =
    let apart : n ≢ k = omega arith in
    let same = ap (λ (z : ℤ). z *ℤ pos (slice_index capacities n)) (set_elsewhere prices k n x apart) in
    let before = set_above prices capacities k x n (omega arith) in
    omega (arith, ints)

pub capacity_set : (prices : List ℤ) (capacities : List ℕ) (k : ℕ) (x : ℤ) (n : ℕ) → k < length prices → k < n
    → capacity_below (set prices k x) capacities n ≡ capacity_below prices capacities n +ℤ (x *ℤ pos (slice_index capacities k) -ℤ slice_index_or prices k (pos 0) *ℤ pos (slice_index capacities k))
capacity_set prices capacities k x zero within l = absurd (omega arith)
capacity_set prices capacities k x (suc n) within l = elim (cases_eq n k) as (λ _. capacity_below (set prices k x) capacities (suc n) ≡ capacity_below prices capacities (suc n) +ℤ (x *ℤ pos (slice_index capacities k) -ℤ slice_index_or prices k (pos 0) *ℤ pos (slice_index capacities k))) [
  | inl same ↦
      let here = ap (λ (z : ℤ). z *ℤ pos (slice_index capacities n)) (set_at prices k n x within same) in
      let new = ap (λ (i : ℕ). x *ℤ pos (slice_index capacities i)) same in
      let old = ap (λ (i : ℕ). slice_index_or prices i (pos 0) *ℤ pos (slice_index capacities i)) same in
      let before = set_above prices capacities k x n (omega arith) in
      omega (arith, ints)
  | inr apart ↦
      let here = ap (λ (z : ℤ). z *ℤ pos (slice_index capacities n)) (set_elsewhere prices k n x apart) in
      let before = capacity_set prices capacities k x n within (omega arith) in
      omega (arith, ints)
]

-- ---- prices that move one after the other
pub moved_count : (moves : List (ℕ × ℤ)) (prices : List ℤ) → length (moved_by moves prices) ≡ length prices
moved_count [] prices = refl
moved_count (move ∷ moves) prices = moved_count moves (set prices move.0 move.1) ∙ set_count prices move.0 move.1

-- a row that has its price, or is to have it, has it at the end
pub moved_at : (to : ℕ → ℤ) (moves : List (ℕ × ℤ)) (prices : List ℤ) (n : ℕ) → All (λ move. move.1 ≡ to move.0) moves → n < length prices
    → (slice_index_or prices n (pos 0) ≡ to n) ⊎ Contains moves (n, to n) → slice_index_or (moved_by moves prices) n (pos 0) ≡ to n
moved_at to [] prices n each l (inl is) = is
moved_at to [] prices n each l (inr has) = absurd (omega (arith, has.1))
moved_at to (move ∷ moves) prices n each l is = moved_at to moves (set prices move.0 move.1) n (All-tail (λ (m : ℕ × ℤ). m.1 ≡ to m.0) move moves each) (let c = set_count prices move.0 move.1 in omega arith)
    (elim (cases_eq n move.0) as (λ _. (slice_index_or (set prices move.0 move.1) n (pos 0) ≡ to n) ⊎ Contains moves (n, to n)) [
      | inl same ↦ inl (set_at prices move.0 n move.1 (omega arith) same ∙ All-head (λ (m : ℕ × ℤ). m.1 ≡ to m.0) move moves each ∙ ap to (sym same))
      | inr apart ↦ by apart is
    ])
  where
    by : (n ≡ move.0 → ⊥) → (slice_index_or prices n (pos 0) ≡ to n) ⊎ Contains (move ∷ moves) (n, to n) → (slice_index_or (set prices move.0 move.1) n (pos 0) ≡ to n) ⊎ Contains moves (n, to n)
    by apart (inl has) = inl (set_elsewhere prices move.0 n move.1 apart ∙ has)
    by apart (inr has) = elim (contains_cases move moves (n, to n) has) as (λ _. (slice_index_or (set prices move.0 move.1) n (pos 0) ≡ to n) ⊎ Contains moves (n, to n)) [
      | inl first ↦ absurd (apart (sym (ap (λ (m : ℕ × ℤ). m.0) first)))
      | inr later ↦ inr later
    ]

same_prices : (xs ys : List ℤ) → length xs ≡ length ys → ((n : ℕ) → n < length xs → slice_index_or xs n (pos 0) ≡ slice_index_or ys n (pos 0)) → xs ≡ ys
same_prices [] [] l h = refl
same_prices [] (y ∷ ys) l h = absurd (omega arith)
same_prices (x ∷ xs) [] l h = absurd (omega arith)
same_prices (x ∷ xs) (y ∷ ys) l h =
    let e : x ≡ y = h zero (omega arith) in
    let t : xs ≡ ys = same_prices xs ys (omega arith) (λ n m. h (suc n) (omega arith)) in
    λ i. e i ∷ t i

-- all prices are moved to 0
pub all_zero : (old new : Levels) → MovesTo (λ n. pos 0) old new → new.prices.items ≡ replicate (length old.prices.items) (pos 0)
all_zero old new is =
    let count = is.count in
    same_prices new.prices.items (replicate (length old.prices.items) (pos 0)) (count ∙ sym (length-replicate (length old.prices.items) (pos 0)))
    (λ n m. is.each n (omega arith) ∙ sym (zeros_at (length old.prices.items) n))

-- prices that were copied come back from zero prices
pub copied : (l : Levels) (moves : List (ℕ × ℤ)) → HoldsPrices l moves → moved_by moves (replicate (length l.prices.items) (pos 0)) ≡ l.prices.items
copied l moves is =
    let zeros = replicate (length l.prices.items) (pos 0) in
    let long : length zeros ≡ length l.prices.items = length-replicate (length l.prices.items) (pos 0) in
    let count = moved_count moves zeros in
    same_prices (moved_by moves zeros) l.prices.items (count ∙ long) (λ n m. moved_at (price_of l) moves zeros n is.each (omega arith) (by n (is.others n (omega arith))))
  where
    by : (n : ℕ) → (price_of l n ≡ pos 0) ⊎ Contains moves (n, price_of l n) → (slice_index_or (replicate (length l.prices.items) (pos 0)) n (pos 0) ≡ price_of l n) ⊎ Contains moves (n, price_of l n)
    by n (inl none) = inl (zeros_at (length l.prices.items) n ∙ sym none)
    by n (inr has) = inr has

-- ---- active rows that are gone through one after the other
pub all_left : (active : List ℕ) (n : ℕ) → Contains active n → IsLeft active 0 n
all_left active n has = record { place = has.0; from = omega arith; within = has.1; is = get_or_default active has.0 0 n has.1 ∙ has.2 }

pub left_has : (active : List ℕ) (k n : ℕ) → IsLeft active k n → Contains active n
left_has active k n left = (left.place, left.within, get_or_default active left.place n 0 left.within ∙ left.is)

-- it stands here or is left
pub left_next : (active : List ℕ) (k n : ℕ) → IsLeft active k n → (slice_index active k ≡ n) ⊎ IsLeft active (k + 1) n
left_next active k n left = elim (cases_eq left.place k) as (λ _. (slice_index active k ≡ n) ⊎ IsLeft active (k + 1) n) [
  | inl here ↦ inl (ap (slice_index active) (sym here) ∙ left.is)
  | inr apart ↦ inr (let from = left.from in record { place = left.place; from = omega arith; within = left.within; is = left.is })
]

pub none_left : (active : List ℕ) (k n : ℕ) → length active ≤ k → IsLeft active k n → ⊥
none_left active k n past left = let from = left.from in let within = left.within in absurd (omega arith)

-- where no number stands twice, what is left after a place isn't what stands there
left_apart : (active : List ℕ) (k n : ℕ) → StandOnce active → IsLeft active (k + 1) n → slice_index active k ≡ n → ⊥
left_apart active k n once left here = once k left.place (let from = left.from in omega arith) left.within (here ∙ sym left.is)

-- the next place is one on
pub goes_next : (active : List ℕ) (k : ℕ) → StandOnce active → k < length active → GoesOn k (k + 1) active active
goes_next active k once l = record {
  kept = left_next active k;
  left = λ n left. (let from = left.from in record { place = left.place; from = omega arith; within = left.within; is = left.is }, left_apart active k n once left);
  fewer = omega arith;
  within = omega arith;
}

-- the last one stands in the place of one that is let go
module _ (active : List ℕ) (k d : ℕ) (l : k < length active) where
  abbrev pub less : List ℕ
  less = swap_remove active k d

  last_is : slice_index_or active (length active - 1) d ≡ slice_index active (length active - 1)
  last_is = get_or_default active (length active - 1) d 0 (omega arith)

  less_count : length less + 1 ≡ length active
  less_count =
      let set_long = length-set active k (slice_index_or active (length active - 1) d) in
      let short = length-take-le (length active - 1) (set active k (slice_index_or active (length active - 1) d)) (omega arith) in
      omega arith

  less_other : (i : ℕ) → i < length less → i ≢ k → slice_index less i ≡ slice_index active i
  less_other i m apart =
      let count = less_count in
      get_or-take (length active - 1) (set active k (slice_index_or active (length active - 1) d)) i 0 (omega arith) ∙ get_or-set_other active k i (slice_index_or active (length active - 1) d) 0 apart

  less_here : k < length less → slice_index less k ≡ slice_index active (length active - 1)
  less_here m =
      let count = less_count in
      get_or-take (length active - 1) (set active k (slice_index_or active (length active - 1) d)) k 0 (omega arith) ∙ get_or-set_same active k (slice_index_or active (length active - 1) d) 0 l ∙ last_is

  -- each place that is left was one before, after place k
  was : (i : ℕ) → i < length less → (j : ℕ) × (j < length active) × (slice_index less i ≡ slice_index active j) × ((j ≡ i) × (i ≢ k) ⊎ (j + 1 ≡ length active) × (i ≡ k))
  was i m = let count = less_count in elim (cases_eq i k) as (λ _. (j : ℕ) × (j < length active) × (slice_index less i ≡ slice_index active j) × ((j ≡ i) × (i ≢ k) ⊎ (j + 1 ≡ length active) × (i ≡ k))) [
    | inl here ↦ (length active - 1, omega arith, ap (slice_index less) here ∙ less_here (subst (λ (p : ℕ). p < length less) here m), inr (omega arith, here))
    | inr apart ↦ (i, omega arith, less_other i m apart, inl (refl, apart))
  ]

  pub once_less : StandOnce active → StandOnce less
  once_less once i j before m same =
      let a = was i (omega arith) in
      let b = was j m in
      by a.0 b.0 a.1 b.1 a.3 b.3 (sym a.2 ∙ same ∙ b.2)
    where
      by : (p q : ℕ) → p < length active → q < length active → ((p ≡ i) × (i ≢ k) ⊎ (p + 1 ≡ length active) × (i ≡ k)) → ((q ≡ j) × (j ≢ k) ⊎ (q + 1 ≡ length active) × (j ≡ k)) → slice_index active p ≡ slice_index active q → ⊥
      by p q u v (inl x) (inl y) e = let x0 = x.0 in let y0 = y.0 in once p q (omega arith) v e
      by p q u v (inl x) (inr y) e = let x0 = x.0 in let y0 = y.0 in let y1 = y.1 in let count = less_count in once p q (omega arith) v e
      by p q u v (inr x) (inl y) e = let x0 = x.0 in let y0 = y.0 in let count = less_count in once q p (omega arith) u (sym e)
      by p q u v (inr x) (inr y) e = let x1 = x.1 in let y1 = y.1 in absurd (omega arith)

  -- what is left was left before, and isn't what was let go
  less_left : StandOnce active → (n : ℕ) → IsLeft less k n → IsLeft active k n × (slice_index active k ≡ n → ⊥)
  less_left once n left = let w = was left.place left.within in by w.0 w.1 w.3 (sym w.2 ∙ left.is)
    where
      by : (p : ℕ) → p < length active → ((p ≡ left.place) × (left.place ≢ k) ⊎ (p + 1 ≡ length active) × (left.place ≡ k)) → slice_index active p ≡ n → IsLeft active k n × (slice_index active k ≡ n → ⊥)
      by p u (inl x) e = let x0 = x.0 in let x1 = x.1 in let from = left.from in (record { place = p; from = omega arith; within = u; is = e }, λ here. once k p (omega arith) u (here ∙ sym e))
      by p u (inr x) e = let x0 = x.0 in let x1 = x.1 in let within = left.within in let count = less_count in (record { place = p; from = omega arith; within = u; is = e }, λ here. once k p (omega arith) u (here ∙ sym e))

  -- what was left is left, but for what was let go
  less_kept : (n : ℕ) → IsLeft active k n → (slice_index active k ≡ n) ⊎ IsLeft less k n
  less_kept n left = elim (cases_eq left.place k) as (λ _. (slice_index active k ≡ n) ⊎ IsLeft less k n) [
    | inl here ↦ inl (ap (slice_index active) (sym here) ∙ left.is)
    | inr apart ↦
        let count = less_count in
        let from = left.from in
        let within = left.within in
        inr (elim (cases_eq (left.place + 1) (length active)) as (λ _. IsLeft less k n) [
          | inl last ↦
              let e : length active - 1 ≡ left.place = omega arith in
              let m : k < length less = omega arith in
              record { place = k; from = omega arith; within = m; is = less_here m ∙ ap (slice_index active) e ∙ left.is }
          | inr before ↦
              let m : left.place < length less = omega arith in
              record { place = left.place; from = left.from; within = m; is = less_other left.place m apart ∙ left.is }
        ])
  ]

  pub goes_less : StandOnce active → GoesOn k k active less
  goes_less once = let count = less_count in record { kept = less_kept; left = less_left once; fewer = omega arith; within = omega arith }

  pub less_has : (n : ℕ) → Contains less n → Contains active n × (StandOnce active → slice_index active k ≡ n → ⊥)
  less_has n has = let w = was has.0 has.1 in by w.0 w.1 w.3 (sym w.2 ∙ get_or_default less has.0 0 n has.1 ∙ has.2)
    where
      by : (p : ℕ) → p < length active → ((p ≡ has.0) × (has.0 ≢ k) ⊎ (p + 1 ≡ length active) × (has.0 ≡ k)) → slice_index active p ≡ n → Contains active n × (StandOnce active → slice_index active k ≡ n → ⊥)
      by p u (inl x) e = let x0 = x.0 in let x1 = x.1 in (
        (p, u, get_or_default active p n 0 u ∙ e),
        λ once here. elim (cases_lt k p) as (λ _. ⊥) [
          | inl before ↦ once k p before u (here ∙ sym e)
          | inr after ↦ once p k (omega arith) l (e ∙ sym here)
        ],
      )
      by p u (inr x) e = let x0 = x.0 in let x1 = x.1 in let w = has.1 in let count = less_count in ((p, u, get_or_default active p n 0 u ∙ e), λ once here. once k p (omega arith) u (here ∙ sym e))

  pub has_less : (n : ℕ) → Contains active n → (slice_index active k ≡ n → ⊥) → Contains less n
  has_less n has apart =
      let count = less_count in
      let at = get_or_default active has.0 0 n has.1 ∙ has.2 in
      let elsewhere : has.0 ≢ k = λ e. apart (ap (slice_index active) (sym e) ∙ at) in
      elim (cases_eq (has.0 + 1) (length active)) as (λ _. Contains less n) [
        | inl last ↦
            let e : length active - 1 ≡ has.0 = omega arith in
            let h = has.1 in
            let m : k < length less = omega arith in
            (k, m, get_or_default less k n 0 m ∙ less_here m ∙ ap (slice_index active) e ∙ at)
        | inr before ↦
            let h = has.1 in
            let m : has.0 < length less = omega arith in
            (has.0, m, get_or_default less has.0 n 0 m ∙ less_other has.0 m elsewhere ∙ at)
      ]

-- ---- prices that are moved row by row
-- so far each row has the price that it is to have, or is left and has the price that it had
pub record AreMoving (to : ℕ → ℤ) (first now : Levels) (k : ℕ) : Type 0 where
  pub count : length now.prices.items ≡ length first.prices.items
  pub done : (n : ℕ) → n < length first.prices.items → (price_of now n ≡ to n) ⊎ IsLeft now.active.items k n
  pub left : (n : ℕ) → IsLeft now.active.items k n → price_of now n ≡ price_of first n

pub moving_first : (to : ℕ → ℤ) (first now : Levels) → IsLevels now → now.prices ≡ first.prices → ((n : ℕ) → IsIdle now n → price_of now n ≡ to n) → AreMoving to first now 0
moving_first to first now is kept idle_stays = record {
  count = ap (λ prices. length prices.items) kept;
  done = λ n m. elim (is.covers n (subst (λ prices. n < length prices.items) (sym kept) m)) as (λ _. (price_of now n ≡ to n) ⊎ IsLeft now.active.items 0 n) [
    | inl idle ↦ inl (idle_stays n idle)
    | inr has ↦ inr (all_left now.active.items n has)
  ];
  left = λ n left. ap (λ prices. slice_index_or prices.items n (pos 0)) kept;
}

-- one more row has the price that it is to have
pub moving_next : (to : ℕ → ℤ) (first old new : Levels) (k next : ℕ) (price : ℤ) → AreMoving to first old k → MovesRow k price next old new → slice_index old.active.items k < length old.prices.items
    → price ≡ to (slice_index old.active.items k) → AreMoving to first new next
moving_next to first old new k next price so_far moves l is = record {
  count = ap length moves.prices ∙ set_count old.prices.items row price ∙ so_far.count;
  done = λ n m. elim (cases_eq n row) as (λ _. (price_of new n ≡ to n) ⊎ IsLeft new.active.items next n) [
    | inl same ↦ inl (here n same)
    | inr apart ↦ elim (so_far.done n m) as (λ _. (price_of new n ≡ to n) ⊎ IsLeft new.active.items next n) [
      | inl has ↦ inl (elsewhere n apart ∙ has)
      | inr left ↦ elim (moves.on.kept n left) as (λ _. (price_of new n ≡ to n) ⊎ IsLeft new.active.items next n) [
        | inl at ↦ absurd (apart (sym at))
        | inr later ↦ inr later
      ]
    ]
  ];
  left = λ n left. let before = moves.on.left n left in elsewhere n (λ e. before.1 (sym e)) ∙ so_far.left n before.0;
}
  where
    row : ℕ
    row = slice_index old.active.items k

    here : (n : ℕ) → n ≡ row → price_of new n ≡ to n
    here n same = ap (λ (ps : List ℤ). slice_index_or ps n (pos 0)) moves.prices ∙ set_at old.prices.items row n price l same ∙ is ∙ ap to (sym same)

    elsewhere : (n : ℕ) → (n ≡ row → ⊥) → price_of new n ≡ price_of old n
    elsewhere n apart = ap (λ (ps : List ℤ). slice_index_or ps n (pos 0)) moves.prices ∙ set_elsewhere old.prices.items row n price apart

-- when none is left
pub moving_all : (to : ℕ → ℤ) (first now : Levels) (k : ℕ) → AreMoving to first now k → length now.active.items ≤ k → MovesTo to first now
moving_all to first now k so_far past = record {
  count = so_far.count;
  each = λ n l. elim (so_far.done n l) as (λ _. price_of now n ≡ to n) [
    | inl is ↦ is
    | inr left ↦ absurd (none_left now.active.items k n past left)
  ];
}

-- ---- lists that have one more
pub kept_push : (xs ys : List ℕ) (y : ℕ) → ys ≡ xs ++ y ∷ [] → All (Contains ys) xs
kept_push xs ys y e k d l = subst (λ (zs : List ℕ). Contains zs (get_or xs k d)) (sym e) (Contains-append_left xs (y ∷ []) (get_or xs k d) (Contains-get_or xs k d l))

pub has_push : (xs ys : List ℕ) (y : ℕ) → ys ≡ xs ++ y ∷ [] → Contains ys y
has_push xs ys y e = subst (λ (zs : List ℕ). Contains zs y) (sym e) (Contains-push xs y)

pub all_push : (P : ℕ → Type 0) (xs ys : List ℕ) (y : ℕ) → ys ≡ xs ++ y ∷ [] → P y → All P xs → All P ys
all_push P xs ys y e p all = subst (All P) (sym e) (All-push P xs y all p)

contains_map : {X Y : Type 0} (f : X → Y) (xs : List X) (x : X) → Contains xs x → Contains (map f xs) (f x)
contains_map f [] x has = absurd (omega (arith, has.1))
contains_map f (y ∷ xs) x has = elim (contains_cases y xs x has) as (λ _. Contains (map f (y ∷ xs)) (f x)) [
  | inl here ↦ contains_head (f y) (map f xs) (f x) (ap f here)
  | inr later ↦ contains_later (f y) (map f xs) (f x) (contains_map f xs x later)
]

-- ---- a row that is made active or let go
once_push : (xs : List ℕ) (y : ℕ) → StandOnce xs → (Contains xs y → ⊥) → StandOnce (xs ++ y ∷ [])
once_push xs y once none i j before l same =
    let long = length-append xs (y ∷ []) in
    let first = get_or_append_left xs (y ∷ []) 0 i (omega arith) in
    elim (cases_eq j (length xs)) as (λ _. ⊥) [
      | inl last ↦
          let at = ap (slice_index (xs ++ y ∷ [])) last ∙ get_or-append_seam xs y [] 0 in
          let m : i < length xs = omega arith in
          none (i, m, get_or_default xs i y 0 m ∙ sym first ∙ same ∙ at)
      | inr apart ↦
          let m : j < length xs = omega arith in
          once i j before m (sym first ∙ same ∙ get_or_append_left xs (y ∷ []) 0 j m)
    ]

module _ (old : Levels) (is : IsLevels old) where
  -- one more row is active and marked
  pub woken_levels : (number : ℕ) (active : Vec ℕ Global) (listed : Vec Bool Global) → number < length old.prices.items → (is_listed old number ≡ true → ⊥) → active.items ≡ old.active.items ++ number ∷ []
      → listed.items ≡ set old.listed.items number true → IsLevels (record old { active = active; listed = listed })
  woken_levels number active listed l unmarked pushed marks = record {
    use_count = is.use_count;
    capacity_count = is.capacity_count;
    mark_count = ap length marks ∙ length-set old.listed.items number true ∙ is.mark_count;
    range = is.range;
    small = is.small;
    capacity_is = is.capacity_is;
    within = all_push (λ (n : ℕ). n < length old.prices.items) old.active.items active.items number pushed l is.within;
    once = subst StandOnce (sym pushed) (once_push old.active.items number is.once (λ has. unmarked (All-contains (λ (n : ℕ). is_listed old n ≡ true) old.active.items number is.marked has)));
    marked = all_push (λ (n : ℕ). slice_index_or listed.items n false ≡ true) old.active.items active.items number pushed here
        (All-weaker (λ (n : ℕ). is_listed old n ≡ true) (λ (n : ℕ). slice_index_or listed.items n false ≡ true) mark_stays old.active.items is.marked);
    found = λ n marked. elim (cases_eq n number) as (λ _. Contains active.items n) [
      | inl same ↦ subst (Contains active.items) (sym same) (has_push old.active.items active.items number pushed)
      | inr apart ↦ stays n (is.found n (sym (elsewhere n apart) ∙ marked))
    ];
    covers = λ n m. elim (is.covers n m) as (λ _. IsIdle old n ⊎ Contains active.items n) [
      | inl idle ↦ inl idle
      | inr has ↦ inr (stays n has)
    ];
  }
    where
      here : slice_index_or listed.items number false ≡ true
      here = ap (λ (ms : List Bool). slice_index_or ms number false) marks ∙ get_or-set_same old.listed.items number true false (let count = is.mark_count in omega arith)

      elsewhere : (n : ℕ) → (n ≡ number → ⊥) → slice_index_or listed.items n false ≡ is_listed old n
      elsewhere n apart = ap (λ (ms : List Bool). slice_index_or ms n false) marks ∙ get_or-set_other old.listed.items number n true false apart

      mark_stays : (n : ℕ) → is_listed old n ≡ true → slice_index_or listed.items n false ≡ true
      mark_stays n marked = elim (cases_eq n number) as (λ _. slice_index_or listed.items n false ≡ true) [
        | inl same ↦ ap (λ (m : ℕ). slice_index_or listed.items m false) same ∙ here
        | inr apart ↦ elsewhere n apart ∙ marked
      ]

      stays : (n : ℕ) → Contains old.active.items n → Contains active.items n
      stays n has = All-contains (Contains active.items) old.active.items n (kept_push old.active.items active.items number pushed) has

  -- an idle row is active and marked no more
  pub rested_levels : (k d : ℕ) (active : Vec ℕ Global) (listed : Vec Bool Global) → k < length old.active.items → IsIdle old (slice_index old.active.items k) → active.items ≡ swap_remove old.active.items k d
      → listed.items ≡ set old.listed.items (slice_index old.active.items k) false → IsLevels (record old { active = active; listed = listed })
  rested_levels k d active listed l idle removed marks = record {
    use_count = is.use_count;
    capacity_count = is.capacity_count;
    mark_count = ap length marks ∙ length-set old.listed.items row false ∙ is.mark_count;
    range = is.range;
    small = is.small;
    capacity_is = is.capacity_is;
    within = all_of (λ (n : ℕ). n < length old.prices.items) (λ n has. All-contains (λ (m : ℕ). m < length old.prices.items) old.active.items n is.within (stood n has).0);
    once = subst StandOnce (sym removed) (once_less old.active.items k d l is.once);
    marked = all_of (λ (n : ℕ). slice_index_or listed.items n false ≡ true) (λ n has. let before = stood n has in elsewhere n (λ e. before.1 is.once (sym e)) ∙ All-contains (λ (m : ℕ). is_listed old m ≡ true) old.active.items n is.marked before.0);
    found = λ n marked.
        let apart : n ≢ row = λ e. cc (sym marked ∙ ap (λ (m : ℕ). slice_index_or listed.items m false) e ∙ here) in
        stays n (is.found n (sym (elsewhere n apart) ∙ marked)) (λ e. apart (sym e));
    covers = λ n m. elim (cases_eq n row) as (λ _. IsIdle old n ⊎ Contains active.items n) [
      | inl same ↦ inl (subst (IsIdle old) (sym same) idle)
      | inr apart ↦ elim (is.covers n m) as (λ _. IsIdle old n ⊎ Contains active.items n) [
        | inl idle_too ↦ inl idle_too
        | inr has ↦ inr (stays n has (λ e. apart (sym e)))
      ]
    ];
  }
    where
      row : ℕ
      row = slice_index old.active.items k

      within_marks : row < length old.listed.items
      within_marks = let count = is.mark_count in let w : row < length old.prices.items = is.within k 0 l in omega arith

      here : slice_index_or listed.items row false ≡ false
      here = ap (λ (ms : List Bool). slice_index_or ms row false) marks ∙ get_or-set_same old.listed.items row false false within_marks

      elsewhere : (n : ℕ) → (n ≡ row → ⊥) → slice_index_or listed.items n false ≡ is_listed old n
      elsewhere n apart = ap (λ (ms : List Bool). slice_index_or ms n false) marks ∙ get_or-set_other old.listed.items row n false false apart

      stood : (n : ℕ) → Contains active.items n → Contains old.active.items n × (StandOnce old.active.items → row ≡ n → ⊥)
      stood n has = less_has old.active.items k d l n (subst (λ (xs : List ℕ). Contains xs n) removed has)

      stays : (n : ℕ) → Contains old.active.items n → (row ≡ n → ⊥) → Contains active.items n
      stays n has apart = subst (λ (xs : List ℕ). Contains xs n) (sym removed) (has_less old.active.items k d l n has apart)

      all_of : (P : ℕ → Type 0) → ((n : ℕ) → Contains active.items n → P n) → All P active.items
      all_of P h i e m = h (get_or active.items i e) (Contains-get_or active.items i e m)

-- active rows cover those with a price or more uses than capacity when one that is active gets another price
pub covers_priced : (prices : List ℤ) (uses capacities active : List ℕ) (k : ℕ) (x : ℤ) → Contains active k
    → ((n : ℕ) → n < length prices → ((slice_index_or prices n (pos 0) ≡ pos 0) × (slice_index uses n ≤ slice_index capacities n)) ⊎ Contains active n)
    → (n : ℕ) → n < length (set prices k x) → ((slice_index_or (set prices k x) n (pos 0) ≡ pos 0) × (slice_index uses n ≤ slice_index capacities n)) ⊎ Contains active n
covers_priced prices uses capacities active k x has covers n l = elim (cases_eq n k) as (λ _. ((slice_index_or (set prices k x) n (pos 0) ≡ pos 0) × (slice_index uses n ≤ slice_index capacities n)) ⊎ Contains active n) [
  | inl same ↦ inr (subst (Contains active) (sym same) has)
  | inr apart ↦ elim (covers n (let c = set_count prices k x in omega arith)) as (λ _. ((slice_index_or (set prices k x) n (pos 0) ≡ pos 0) × (slice_index uses n ≤ slice_index capacities n)) ⊎ Contains active n) [
    | inl idle ↦ inl (set_elsewhere prices k n x apart ∙ idle.0, idle.1)
    | inr active_too ↦ inr active_too
  ]
]

-- or when a row has another use, unless it was idle, isn't active and is used above its capacity now
pub used_levels : (old : Levels) (loads : RowLoads) (k x : ℕ) → IsLevels old → k < length old.prices.items → SetsUses k x old.loads loads → (IsIdle old k → (x ≤ capacity_of old k) ⊎ Contains old.active.items k)
    → IsLevels (record old { loads = loads })
used_levels old loads k x is l sets active = record {
  use_count = ap length sets.uses_are ∙ length-set old.loads.uses k x ∙ is.use_count;
  capacity_count = ap length sets.capacities ∙ is.capacity_count;
  mark_count = is.mark_count;
  range = is.range;
  small = subst (All (λ (c : ℕ). c ≤ 65535)) (sym sets.capacities) is.small;
  capacity_is = is.capacity_is ∙ ap (λ (cs : List ℕ). capacity_below old.prices.items cs (length old.prices.items)) (sym sets.capacities);
  within = is.within;
  once = is.once;
  marked = is.marked;
  found = is.found;
  covers = λ n m. elim (cases_eq n k) as (λ _. IsIdle (record old { loads = loads }) n ⊎ Contains old.active.items n) [
    | inl same ↦ subst (λ (i : ℕ). IsIdle (record old { loads = loads }) i ⊎ Contains old.active.items i) (sym same) at_row
    | inr apart ↦ elim (is.covers n m) as (λ _. IsIdle (record old { loads = loads }) n ⊎ Contains old.active.items n) [
      | inl idle ↦ inl (idle.0, let u = elsewhere n apart in let few = idle.1 in let room = room_at n in omega arith)
      | inr has ↦ inr has
    ]
  ];
}
  where
    room_at : (n : ℕ) → slice_index loads.capacities n ≡ capacity_of old n
    room_at n = ap (λ (cs : List ℕ). slice_index cs n) sets.capacities

    here : slice_index loads.uses k ≡ x
    here = ap (λ (us : List ℕ). slice_index us k) sets.uses_are ∙ get_or-set_same old.loads.uses k x 0 (let count = is.use_count in omega arith)

    elsewhere : (n : ℕ) → (n ≡ k → ⊥) → slice_index loads.uses n ≡ use_of old n
    elsewhere n apart = ap (λ (us : List ℕ). slice_index us n) sets.uses_are ∙ get_or-set_other old.loads.uses k n x 0 apart

    at_row : IsIdle (record old { loads = loads }) k ⊎ Contains old.active.items k
    at_row = elim (is.covers k l) as (λ _. IsIdle (record old { loads = loads }) k ⊎ Contains old.active.items k) [
      | inl idle ↦ elim (active idle) as (λ _. IsIdle (record old { loads = loads }) k ⊎ Contains old.active.items k) [
        | inl few ↦ inl (idle.0, let u = here in let room = room_at k in omega arith)
        | inr has ↦ inr has
      ]
      | inr has ↦ inr has
    ]

-- or when no row has more uses
pub less_levels : (old : Levels) (loads : RowLoads) → IsLevels old → length loads.uses ≡ length old.loads.uses → loads.capacities ≡ old.loads.capacities → ((n : ℕ) → slice_index loads.uses n ≤ use_of old n) → IsLevels (record old { loads = loads })
less_levels old loads is count same less = record {
  use_count = count ∙ is.use_count;
  capacity_count = ap length same ∙ is.capacity_count;
  mark_count = is.mark_count;
  range = is.range;
  small = subst (All (λ (c : ℕ). c ≤ 65535)) (sym same) is.small;
  capacity_is = is.capacity_is ∙ ap (λ (cs : List ℕ). capacity_below old.prices.items cs (length old.prices.items)) (sym same);
  within = is.within;
  once = is.once;
  marked = is.marked;
  found = is.found;
  covers = λ n m. elim (is.covers n m) as (λ _. IsIdle (record old { loads = loads }) n ⊎ Contains old.active.items n) [
    | inl idle ↦ inl (idle.0, let l = less n in let few = idle.1 in let room = ap (λ (cs : List ℕ). slice_index cs n) same in omega arith)
    | inr has ↦ inr has
  ];
}

-- one use that is less than before
pub less_set : (uses : List ℕ) (k x n : ℕ) → x ≤ get_or uses k 0 → get_or (set uses k x) n 0 ≤ get_or uses n 0
less_set [] k x n less = omega arith
less_set (u ∷ uses) zero x zero less = less
less_set (u ∷ uses) zero x (suc n) less = omega arith
less_set (u ∷ uses) (suc k) x zero less = omega arith
less_set (u ∷ uses) (suc k) x (suc n) less = less_set uses k x n less

pub none_at : (count n : ℕ) → slice_index (replicate count 0) n ≡ 0
none_at zero n = refl
none_at (suc count) zero = refl
none_at (suc count) (suc n) = none_at count n

-- ---- prices that are copied
pub prices_held : (l : Levels) → IsLevels l → HoldsPrices l (map (λ (n : ℕ). (n, price_of l n)) l.active.items)
prices_held l is = record {
  are = All-map (IsMove (length l.prices.items)) (λ (n : ℕ). (n, price_of l n)) l.active.items
      (All-weaker (λ (n : ℕ). n < length l.prices.items) (λ (n : ℕ). IsMove (length l.prices.items) (n, price_of l n)) (λ n within. (within, row_price_or l.prices.items n is.range)) l.active.items is.within);
  each = All-map (λ (move : ℕ × ℤ). move.1 ≡ price_of l move.0) (λ (n : ℕ). (n, price_of l n)) l.active.items (λ k d m. refl);
  others = λ n m. elim (is.covers n m) as (λ _. (price_of l n ≡ pos 0) ⊎ Contains {X = ℕ × ℤ} (map (λ (n : ℕ). (n, price_of l n)) l.active.items) (n, price_of l n)) [
    | inl idle ↦ inl idle.0
    | inr active ↦ inr (contains_map (λ (n : ℕ). (n, price_of l n)) l.active.items n active)
  ];
}

-- ---- one more row, at no price and with no use
push_last : {X : Type 0} (xs : List X) (x d : X) (n : ℕ) → x ≡ d → length xs ≤ n → get_or (xs ++ x ∷ []) n d ≡ d
push_last [] x d zero e l = e
push_last [] x d (suc n) e l = refl
push_last (y ∷ xs) x d zero e l = absurd (omega arith)
push_last (y ∷ xs) x d (suc n) e l = push_last xs x d n e (omega arith)

push_below : (prices : List ℤ) (capacities : List ℕ) (capacity n : ℕ) → length capacities ≡ length prices → n ≤ length prices → capacity_below (prices ++ pos 0 ∷ []) (capacities ++ capacity ∷ []) n ≡ capacity_below prices capacities n
push_below prices capacities capacity zero count l = refl
push_below prices capacities capacity (suc n) count l =
    let before = push_below prices capacities capacity n count (omega arith) in
    let price = get_or_append_left prices (pos 0 ∷ []) (pos 0) n (omega arith) in
    let room = get_or_append_left capacities (capacity ∷ []) 0 n (omega arith) in
    let here = ap (λ (z : ℤ). z *ℤ pos (slice_index (capacities ++ capacity ∷ []) n)) price ∙ ap (λ (m : ℕ). slice_index_or prices n (pos 0) *ℤ pos m) room in
    omega (arith, ints)

pub capacity_push : (prices : List ℤ) (capacities : List ℕ) (capacity : ℕ) → length capacities ≡ length prices
    → capacity_below (prices ++ pos 0 ∷ []) (capacities ++ capacity ∷ []) (length (prices ++ pos 0 ∷ [])) ≡ capacity_below prices capacities (length prices)
capacity_push prices capacities capacity count =
    let n = length prices in
    let long : length (prices ++ pos 0 ∷ []) ≡ suc n = omega (arith, length-append prices (pos 0 ∷ [])) in
    let before = push_below prices capacities capacity n count (omega arith) in
    let here = ap (λ (z : ℤ). z *ℤ pos (slice_index (capacities ++ capacity ∷ []) n)) (push_last prices (pos 0) (pos 0) n refl (omega arith)) in
    let none = zero-*ℤ (pos (slice_index (capacities ++ capacity ∷ []) n)) in
    ap (capacity_below (prices ++ pos 0 ∷ []) (capacities ++ capacity ∷ [])) long ∙ omega (arith, ints)

-- the level of one more row
pub pushed_levels : (old new : Levels) (capacity : ℕ) → IsLevels old → AreUnused new → capacity ≤ 65535 → new.prices.items ≡ old.prices.items ++ pos 0 ∷ [] → new.loads.capacities ≡ old.loads.capacities ++ capacity ∷ []
    → length new.loads.uses ≡ length old.loads.uses + 1 → new.active ≡ old.active → new.listed.items ≡ old.listed.items ++ false ∷ [] → new.capacity ≡ old.capacity → IsLevels new
pushed_levels old new capacity is unused fits prices capacities uses active marks total = record {
  use_count = let a = is.use_count in let b = count in omega arith;
  capacity_count = let a = is.capacity_count in let b = count in let c = ap length capacities ∙ length-append old.loads.capacities (capacity ∷ []) in omega arith;
  mark_count = let a = is.mark_count in let b = count in let c = ap length marks ∙ length-append old.listed.items (false ∷ []) in omega arith;
  range = subst (All IsRowPrice) (sym prices) (All-push IsRowPrice old.prices.items (pos 0) is.range (omega (arith, ints), omega (arith, ints)));
  small = subst (All (λ (c : ℕ). c ≤ 65535)) (sym capacities) (All-push (λ (c : ℕ). c ≤ 65535) old.loads.capacities capacity is.small fits);
  capacity_is = total ∙ is.capacity_is ∙ sym (capacity_push old.prices.items old.loads.capacities capacity is.capacity_count) ∙ ap (λ (ps : List ℤ). capacity_below ps (old.loads.capacities ++ capacity ∷ []) (length ps)) (sym prices)
      ∙ ap (λ (cs : List ℕ). capacity_below new.prices.items cs (length new.prices.items)) (sym capacities);
  within = subst (λ v. All (λ (n : ℕ). n < length new.prices.items) v.items) (sym active)
      (All-weaker (λ (n : ℕ). n < length old.prices.items) (λ (n : ℕ). n < length new.prices.items) (λ n l. let b = count in omega arith) old.active.items is.within);
  once = subst (λ v. StandOnce v.items) (sym active) is.once;
  marked = subst (λ v. All (λ (n : ℕ). is_listed new n ≡ true) v.items) (sym active) (All-weaker (λ (n : ℕ). is_listed old n ≡ true) (λ (n : ℕ). is_listed new n ≡ true) (λ n marked. mark n ∙ marked) old.active.items is.marked);
  found = λ n marked. subst (λ v. Contains v.items n) (sym active) (is.found n (sym (mark n) ∙ marked));
  covers = λ n l. elim (cases_lt n (length old.prices.items)) as (λ _. IsIdle new n ⊎ Contains new.active.items n) [
    | inl within ↦ elim (is.covers n within) as (λ _. IsIdle new n ⊎ Contains new.active.items n) [
      | inl idle ↦ inl (price n ∙ get_or_append_left old.prices.items (pos 0 ∷ []) (pos 0) n within ∙ idle.0, let u = unused n in omega arith)
      | inr has ↦ inr (subst (λ v. Contains v.items n) (sym active) has)
    ]
    | inr past ↦ inl (price n ∙ push_last old.prices.items (pos 0) (pos 0) n refl past, let u = unused n in omega arith)
  ];
}
  where
    count : length new.prices.items ≡ length old.prices.items + 1
    count = ap length prices ∙ length-append old.prices.items (pos 0 ∷ [])

    price : (n : ℕ) → price_of new n ≡ slice_index_or (old.prices.items ++ pos 0 ∷ []) n (pos 0)
    price n = ap (λ (ps : List ℤ). slice_index_or ps n (pos 0)) prices

    mark : (n : ℕ) → is_listed new n ≡ is_listed old n
    mark n = ap (λ (ms : List Bool). slice_index_or ms n false) marks ∙ elim (cases_lt n (length old.listed.items)) as (λ _. slice_index_or (old.listed.items ++ false ∷ []) n false ≡ slice_index_or old.listed.items n false) [
      | inl within ↦ get_or_append_left old.listed.items (false ∷ []) false n within
      | inr past ↦ push_last old.listed.items false false n refl past ∙ sym (get_or_past old.listed.items n false past)
    ]

none_below : (capacities : List ℕ) (m n : ℕ) → capacity_below (replicate m (pos 0)) capacities n ≡ pos 0
none_below capacities m zero = refl
none_below capacities m (suc n) =
    let here = ap (λ (z : ℤ). z *ℤ pos (slice_index capacities n)) (zeros_at m n) in
    let zero = zero-*ℤ (pos (slice_index capacities n)) in
    let before = none_below capacities m n in
    omega (arith, ints)

unmarked : (n k : ℕ) → slice_index_or (replicate n false) k false ≡ false
unmarked zero k = refl
unmarked (suc n) zero = refl
unmarked (suc n) (suc k) = unmarked n k

-- rows of which nothing is used, at no price
pub free_are : (l : Levels) (count : ℕ) → l.prices.items ≡ replicate count (pos 0) → l.listed.items ≡ replicate count false → l.active.items ≡ [] → l.capacity ≡ pos 0
    → length l.loads.uses ≡ count → length l.loads.capacities ≡ count → All (λ capacity. capacity ≤ 65535) l.loads.capacities → AreUnused l → IsLevels l
free_are l count prices marks none total uses capacities small unused = record {
  use_count = uses ∙ sym prices_count;
  capacity_count = capacities ∙ sym prices_count;
  mark_count = ap length marks ∙ length-replicate count false ∙ sym prices_count;
  range = subst (All IsRowPrice) (sym prices) (All-replicate IsRowPrice count (pos 0) (omega (arith, ints), omega (arith, ints)));
  small = small;
  capacity_is = total ∙ sym (none_below l.loads.capacities count (length l.prices.items)) ∙ ap (λ (ps : List ℤ). capacity_below ps l.loads.capacities (length l.prices.items)) (sym prices);
  within = subst (All (λ (n : ℕ). n < length l.prices.items)) (sym none) (λ k d within. absurd (omega arith));
  once = subst StandOnce (sym none) (λ i j before within same. absurd (omega arith));
  marked = subst (All (λ (n : ℕ). is_listed l n ≡ true)) (sym none) (λ k d within. absurd (omega arith));
  found = λ n marked. absurd (let off = ap (λ (ms : List Bool). slice_index_or ms n false) marks ∙ unmarked count n in let both : false ≡ true = sym off ∙ marked in cc);
  covers = λ n l'. inl (ap (λ (ps : List ℤ). slice_index_or ps n (pos 0)) prices ∙ zeros_at count n, let u = unused n in omega arith);
}
  where
    prices_count : length l.prices.items ≡ count
    prices_count = ap length prices ∙ length-replicate count (pos 0)

pub push_unused : (uses : List ℕ) (n : ℕ) → slice_index uses n ≡ 0 → slice_index (uses ++ 0 ∷ []) n ≡ 0
push_unused [] zero none = refl
push_unused [] (suc n) none = refl
push_unused (u ∷ uses) zero none = none
push_unused (u ∷ uses) (suc n) none = push_unused uses n none
