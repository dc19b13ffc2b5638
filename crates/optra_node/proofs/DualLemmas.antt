-- Weak duality: no choice of a node earns more than the node's dual value.
use Rattle.std.proofs.Common.{◌≡◌, ℕ, zero, suc, ◌+◌, Bool, true, false, List, [], ◌∷◌, map, length, Option, Some, None, slice_get, refl, sym, ap, ◌∙◌, subst, arith, inl, inr}
use Rattle.std.specs.Prelude.{All, Contains, ◌⊎◌, IfSome}
use Rattle.std.specs.Prelude.{ℤ, pos, ◌+ℤ◌, ◌*ℤ◌, ◌≤ℤ◌}
use Rattle.std.specs.List.{AllZip}
use Rattle.std.proofs.lemmas.Int.{ints}
use Rattle.std.proofs.lemmas.List.Sums.{sum_by-cons}
use Rattle.std.proofs.lemmas.Bool.Decides.{nat_tests}
use Rattle.std.proofs.Math.Nat.{mul-add, mul-le-mul_left}
use Rattle.std.proofs.Math.IntN.{negsuc}
use Rattle.optra_network.specs.Net.{Net}
use Rattle.optra_bid.specs.declared.bids.Bid.{Bid}
use Rattle.optra_walk.specs.declared.Leg.{Leg}
use Rattle.optra_walk.specs.Walks.{IsWalk}
use Rattle.optra_walk.specs.Choices.{IsChoice, revenue_of}
use Rattle.optra_walk.specs.Families.{Rows, Entry, FitRows, load_of, entries_of}
use Rattle.optra_node.specs.declared.Decision.{Decision}
use Rattle.optra_node.specs.Nodes.{DecidesOnce, Follows, IsOfNode, legs_at, has_yes, is_yes_for, IsAllowed}
use Rattle.optra_node.specs.Duals.{sum_of, PriceList, IsPrice, ArePrices, leg_price, capacity_price, reduced_value, IsStuck, IsTerm, IsDead, IsDual}
use Rattle.optra_node.proofs.SumLemmas.{sum_of-cons, sum_of-append, sum_of-map}
use Rattle.optra_node.proofs.LoadLemmas.{all_head, all_tail, allowed_at}

-- a price times uses, added up over legs
abbrev pub price_of_all : {R : Type 0} → Rows R → PriceList R → List Entry → ℤ
price_of_all rows prices entries = sum_of (λ e. leg_price rows prices e.0 e.1) entries

times_sum : (n a b : ℕ) → pos n *ℤ pos (a + b) ≡ pos n *ℤ pos a +ℤ pos n *ℤ pos b
times_sum n a b = ap pos (mul-add n a b)

no_prices : {R : Type 0} (rows : Rows R) (entries : List Entry) → price_of_all rows [] entries ≡ pos 0
no_prices rows [] = refl
no_prices rows (e ∷ es) = no_prices rows es

-- the prices of all legs, by rows
by_rows : {R : Type 0} (rows : Rows R) (row : R) (n : ℕ) (prices : PriceList R) (entries : List Entry)
    → price_of_all rows ((row, pos n) ∷ prices) entries ≡ pos n *ℤ pos (load_of rows row entries) +ℤ price_of_all rows prices entries
by_rows rows row n prices [] = omega (arith, ints)
by_rows {R} rows row n prices (e ∷ es) =
    let a = sum_of-cons (λ (e : Entry). leg_price rows ((row, pos n) ∷ prices) e.0 e.1) e es in
    let b = sum_of-cons (λ (e : Entry). leg_price rows prices e.0 e.1) e es in
    let c = sum_of-cons (λ (p : R × ℤ). p.1 *ℤ pos (rows.uses e.0 e.1 p.0)) (row, pos n) prices in
    let i = by_rows rows row n prices es in
    let s = ap (λ (m : ℕ). pos n *ℤ pos m) (sum_by-cons (λ (e : Entry). rows.uses e.0 e.1 row) e es) in
    let t = times_sum n (rows.uses e.0 e.1 row) (load_of rows row es) in
    omega (arith, ints)

price_nat : (p : ℤ) → pos 1 ≤ℤ p → (n : ℕ) × (p ≡ pos n)
price_nat p h = by p h
  where
    by : (p : ℤ) → pos 1 ≤ℤ p → (n : ℕ) × (p ≡ pos n)
    by (pos n) h = (n, refl)
    by (negsuc n) h = absurd (omega (arith, ints))

-- legs that fit cost no more than the capacity
pub capacity_above : {R : Type 0} (rows : Rows R) (prices : PriceList R) (entries : List Entry) → ArePrices rows prices → FitRows rows entries
    → price_of_all rows prices entries ≤ℤ capacity_price rows prices
capacity_above rows [] entries are fit = let z = no_prices rows entries in omega (arith, ints)
capacity_above {R} rows (p ∷ prices) entries are fit =
    let first = all_head (IsPrice rows) p prices are in
    let n = price_nat p.1 first.least in
    let i = capacity_above rows prices entries (all_tail (IsPrice rows) p prices are) fit in
    let c = sum_of-cons (λ (p : R × ℤ). p.1 *ℤ pos (rows.capacity p.0)) p prices in
    let d = ap (λ (z : ℤ). z *ℤ pos (rows.capacity p.0)) n.1 in
    let e = ap (λ (z : ℤ). price_of_all rows ((p.0, z) ∷ prices) entries) n.1 in
    let b = by_rows rows p.0 n.0 prices entries in
    let m = mul-le-mul_left n.0 (fit p.0 first.is_row) in
    omega (arith, ints)

pub zip_at : {A B : Type 0} (P : A → B → Type 0) (xs : List A) (ys : List B) (k : ℕ) (x : A) (y : B) → AllZip P xs ys → slice_get xs k ≡ Some x → slice_get ys k ≡ Some y → P x y
zip_at P [] ys k x y h a b = cc
zip_at P (z ∷ xs) [] k x y h a b = cc
zip_at P (z ∷ xs) (w ∷ ys) zero x y h a b =
    let e : z ≡ x = cc in let f : w ≡ y = cc in
    subst (λ v. P v y) e (subst (λ v. P z v) f h.0)
zip_at P (z ∷ xs) (w ∷ ys) (suc k) x y h a b = zip_at P xs ys k x y h.1 a b

pub zip_length : {A B : Type 0} (P : A → B → Type 0) (xs : List A) (ys : List B) → AllZip P xs ys → length xs ≡ length ys
zip_length P [] [] h = refl
zip_length P [] (y ∷ ys) h = absurd h
zip_length P (x ∷ xs) [] h = absurd h
zip_length P (x ∷ xs) (y ∷ ys) h = ap suc (zip_length P xs ys h.1)

-- a bid with a leg has a walk
pub walk_there : (walks : List (Option (List Leg))) (number : ℕ) (leg : Leg) → Contains (legs_at walks number) leg → (legs : List Leg) × (slice_get walks number ≡ Some (Some legs))
walk_there [] number leg (k, l, e) = absurd (omega arith)
walk_there (None ∷ walks) zero leg (k, l, e) = absurd (omega arith)
walk_there (Some legs ∷ walks) zero leg c = (legs, refl)
walk_there (walk ∷ walks) (suc number) leg c = walk_there walks number leg c

-- the yes decision of a bid that has one
pub yes_of : (P : Decision → Type 0) (node : List Decision) (number : ℕ) → All P node → has_yes node number ≡ true → (d : Decision) × P d × (d.yes ≡ true) × (d.bid ≡ number)
yes_of P [] number all e = cc
yes_of P (d ∷ node) number all e = by (is_yes_for number d) refl (yes_of P node number (all_tail P d node all))
  where
    by : (b : Bool) → is_yes_for number d ≡ b → (has_yes node number ≡ true → (d : Decision) × P d × (d.yes ≡ true) × (d.bid ≡ number))
        → (d : Decision) × P d × (d.yes ≡ true) × (d.bid ≡ number)
    by true q before = (d, all_head P d node all, grind (arith, nat_tests), grind (arith, nat_tests))
    by false q before = before (grind (arith, nat_tests))

module _ {R : Type 0} (net : Net) (rows : Rows R) (bids : List Bid) (walks : List (Option (List Leg))) (node : List Decision) where
  -- where the bid has a yes leg, a choice of the node that fits has an allowed walk of it
  pub yes_allowed : (number : ℕ) (bid : Bid) → slice_get bids number ≡ Some bid → has_yes node number ≡ true
      → IsChoice net bids walks → DecidesOnce node → IsOfNode walks node → FitRows rows (entries_of bids walks)
      → (legs : List Leg) × (slice_get walks number ≡ Some (Some legs)) × IsAllowed net rows bids node number bid legs
  yes_allowed number bid at e choice once of fit =
      let d = yes_of (λ d. Follows (legs_at walks d.bid) d) node number of e in
      let has = subst (λ n. Contains (legs_at walks n) d.0.leg) d.3 (d.1.yes d.2) in
      let w = walk_there walks number d.0.leg has in
      let walk : IsWalk net bid.path w.0 = zip_at (λ (b : Bid) (o : Option (List Leg)). IfSome o (IsWalk net b.path)) bids walks number bid (Some w.0) choice at w.1 in
      (w.0, w.1, allowed_at net rows bids walks node number bid w.0 at w.1 walk once of fit)

  -- so no such choice is of a node where a bid is stuck
  pub not_stuck : (number : ℕ) (bid : Bid) → slice_get bids number ≡ Some bid → IsChoice net bids walks → DecidesOnce node → IsOfNode walks node
      → FitRows rows (entries_of bids walks) → IsStuck net rows bids node number bid → ⊥
  not_stuck number bid at choice once of fit stuck =
      let a = yes_allowed number bid at stuck.yes choice once of fit in
      stuck.none a.0 a.2

-- what an entry of a choice gains at prices
abbrev pub gain_of : {R : Type 0} → Net → Rows R → PriceList R → Bid → Option (List Leg) → ℤ
gain_of net rows prices bid None = pos 0
gain_of net rows prices bid (Some legs) = reduced_value net rows prices bid legs

module _ {R : Type 0} (net : Net) (rows : Rows R) (prices : PriceList R) where
  -- gains within the terms add up
  pub gains_within : (bids : List Bid) (walks : List (Option (List Leg))) (terms : List ℤ) → length bids ≡ length walks → length terms ≡ length bids
      → ((number : ℕ) (bid : Bid) (walk : Option (List Leg)) (term : ℤ) → slice_get bids number ≡ Some bid → slice_get walks number ≡ Some walk → slice_get terms number ≡ Some term → gain_of net rows prices bid walk ≤ℤ term)
      → (pos 1000 *ℤ revenue_of net bids walks) ≤ℤ (sum_of (λ t. t) terms +ℤ price_of_all rows prices (entries_of bids walks))
  gains_within [] walks [] l m each = omega (arith, ints)
  gains_within [] walks (t ∷ terms) l m each = absurd (omega arith)
  gains_within (bid ∷ bids) [] terms l m each = absurd (omega arith)
  gains_within (bid ∷ bids) (walk ∷ walks) [] l m each = absurd (omega arith)
  gains_within (bid ∷ bids) (None ∷ walks) (t ∷ terms) l m each =
      let first = each zero bid None t refl refl refl in
      let i = gains_within bids walks terms (omega arith) (omega arith) (λ n. each (suc n)) in
      let s = sum_of-cons (λ (t : ℤ). t) t terms in
      omega (arith, ints)
  gains_within (bid ∷ bids) (Some legs ∷ walks) (t ∷ terms) l m each =
      let first = each zero bid (Some legs) t refl refl refl in
      let i = gains_within bids walks terms (omega arith) (omega arith) (λ n. each (suc n)) in
      let s = sum_of-cons (λ (t : ℤ). t) t terms in
      let a = sum_of-append (λ (e : Entry). leg_price rows prices e.0 e.1) (map (λ leg. (bid.path.kind, leg)) legs) (entries_of bids walks) in
      let b = sum_of-map (λ (e : Entry). leg_price rows prices e.0 e.1) (λ (leg : Leg). (bid.path.kind, leg)) legs in
      omega (arith, ints)

module _ {R : Type 0} (net : Net) (rows : Rows R) (bids : List Bid) (node : List Decision) (prices : PriceList R) (walks : List (Option (List Leg)))
    (once : DecidesOnce node) (choice : IsChoice net bids walks) (of : IsOfNode walks node) (fit : FitRows rows (entries_of bids walks)) where
  -- no bid is stuck at a node of such a choice
  pub alive : IsDead net rows bids node → ⊥
  alive (number, bid, at, stuck) = not_stuck net rows bids walks node number bid at choice once of fit stuck

  -- a walk of the choice is allowed
  pub walk_allowed : (number : ℕ) (bid : Bid) (legs : List Leg) → slice_get bids number ≡ Some bid → slice_get walks number ≡ Some (Some legs) → IsAllowed net rows bids node number bid legs
  walk_allowed number bid legs at w =
      let walk : IsWalk net bid.path legs = zip_at (λ (b : Bid) (o : Option (List Leg)). IfSome o (IsWalk net b.path)) bids walks number bid (Some legs) choice at w in
      allowed_at net rows bids walks node number bid legs at w walk once of fit

  -- what the choice gains by a bid is within the bid's term
  pub gain_within : (number : ℕ) (bid : Bid) (walk : Option (List Leg)) (term : ℤ) → slice_get bids number ≡ Some bid → slice_get walks number ≡ Some walk
      → IsTerm net rows bids node prices number bid term → (b : Bool) → has_yes node number ≡ b → gain_of net rows prices bid walk ≤ℤ term
  gain_within number bid walk term at w (inr stuck) b e = absurd (alive (number, bid, at, stuck.0))
  gain_within number bid None term at w (inl greatest) false e = greatest.most (pos 0) (inl (e, refl))
  gain_within number bid None term at w (inl greatest) true e =
      let a = yes_allowed net rows bids walks node number bid at e choice once of fit in
      absurd (no (sym w ∙ a.1))
    where
      no : {legs : List Leg} → Some None ≡ Some (Some legs) → ⊥
      no e = cc
  gain_within number bid (Some legs) term at w (inl greatest) b e = greatest.most (reduced_value net rows prices bid legs) (inr (legs, walk_allowed number bid legs at w, refl))

module _ {R : Type 0} (net : Net) (rows : Rows R) (bids : List Bid) (node : List Decision) (prices : PriceList R) (terms : List ℤ) (value : ℤ) (walks : List (Option (List Leg))) where
  pub weak_duality : ArePrices rows prices → DecidesOnce node → IsDual net rows bids node prices terms value
      → IsChoice net bids walks → IsOfNode walks node → FitRows rows (entries_of bids walks) → (pos 1000 *ℤ revenue_of net bids walks) ≤ℤ value
  weak_duality are once dual choice of fit = by dual.total
    where
      by : ((IsDead net rows bids node → ⊥) × (value ≡ capacity_price rows prices +ℤ sum_of (λ t. t) terms)) ⊎ (IsDead net rows bids node × (value ≡ pos 0))
          → (pos 1000 *ℤ revenue_of net bids walks) ≤ℤ value
      by (inl (lives, e)) =
          let g = gains_within net rows prices bids walks terms (zip_length (λ (b : Bid) (o : Option (List Leg)). IfSome o (IsWalk net b.path)) bids walks choice) dual.count
          (λ number bid walk term at w t. gain_within net rows bids node prices walks once choice of fit number bid walk term at w (dual.each number bid term at t) (has_yes node number) refl) in
          let c = capacity_above rows prices (entries_of bids walks) are fit in
          omega (arith, ints)
      by (inr (dead, e)) = absurd (alive net rows bids node prices walks once choice of fit dead)
