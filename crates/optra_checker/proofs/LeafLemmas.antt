-- The offers to a bid at a leaf, and the dual value that they add up to.
use Rattle.std.proofs.Common.{◌≡◌, ℕ, zero, suc, ◌+◌, ◌<◌, ◌≤◌, true, false, List, [], ◌∷◌, ◌++◌, length, get_or, Option, None, Some, slice_get, IfSome, refl, sym, ap, ◌∙◌, subst, arith, inl, inr}
use Rattle.std.specs.Prelude.{◌⊎◌, MatchOption}
use Rattle.std.specs.Prelude.{ℤ, pos, ◌+ℤ◌, ◌≤ℤ◌}
use Rattle.std.specs.Option.{option_map_or}
use Rattle.std.specs.declared.cmp.Ordering.{Ordering}
use Rattle.std.proofs.lemmas.Bool.{cases_lt, false≢true}
use Rattle.std.proofs.lemmas.Int.{ints}
use Rattle.std.proofs.lemmas.List.{length-append}
use Rattle.std.proofs.lemmas.Option.{slice_get_within}
use Rattle.optra_network.specs.Net.{Net, IsProper}
use Rattle.optra_network.specs.declared.TypeId.{TypeId}
use Rattle.optra_bid.specs.declared.bids.Bid.{Bid}
use Rattle.optra_walk.specs.declared.Leg.{Leg}
use Rattle.optra_walk.specs.Families.{Rows, IsUsable, ListsRows}
use Rattle.optra_walk.specs.Values.{first_departure}
use Rattle.optra_walk.proofs.UsableLemmas.{walk_usable}
use Rattle.optra_node.specs.declared.Decision.{Decision}
use Rattle.optra_node.specs.Nodes.{has_yes, kind_at, IsAllowed}
use Rattle.optra_node.specs.Duals.{sum_of, PriceList, capacity_price, IsGreatest, IsOffer, IsStuck, IsTerm, IsDead, whole_cents}
use Rattle.optra_node.specs.Certificates.{IsBoundOf}
use Rattle.optra_node.proofs.SpanLemmas.{tests_pass, passes_allowed}
use Rattle.optra_node.proofs.SumLemmas.{sum_of-cons, sum_of-append}
use Rattle.optra_checker.specs.Leaves.{IsBestOffer, IsStuckBelow, AreTerms, IsSumSize, plus_of, dual_by}
use Rattle.optra_open.specs.NodeWeights.{leaf_weights}
use Rattle.optra_rests.specs.Weights.{Weights, IsOpenWalk, IsWorth, IsBestWorth, IsWorthSize}
use Rattle.optra_open.proofs.TestLemmas.{start_tested, leg_tested}

module _ {R : Type 0} (cmp : R → R → Ordering) (net : Net) (proper : IsProper net) (rows : Rows R) (used : TypeId → Leg → List R) (lists : (kind : TypeId) (leg : Leg) → IsUsable net kind leg → ListsRows cmp rows.is_row (rows.uses kind leg) (used kind leg))
    (bids : List Bid) (node : List Decision) (prices : PriceList R) (number : ℕ) (bid : Bid) where
  abbrev pub weights : Weights
  weights = leaf_weights net rows used bids node number prices bid.path.kind

  pub open_allowed : (legs : List Leg) → IsOpenWalk weights net bid.path legs → IsAllowed net rows bids node number bid legs
  open_allowed legs is =
      let usable = walk_usable net proper bid legs is.walk in
      passes_allowed net proper rows bids node number bid legs is.walk
      ((start_tested node number (first_departure legs)).0 is.start, λ k d l. (leg_tested net bid.path.kind cmp rows used bids node number (get_or legs k d) (lists bid.path.kind (get_or legs k d) (usable k d l))).0 (is.each k d l))

  pub allowed_open : (legs : List Leg) → IsAllowed net rows bids node number bid legs → IsOpenWalk weights net bid.path legs
  allowed_open legs is =
      let usable = walk_usable net proper bid legs is.walk in
      let t = tests_pass net proper rows bids node number bid legs is.walk is in
      record {
        walk = is.walk;
        start = (start_tested node number (first_departure legs)).1 t.0;
        each = λ k d l. (leg_tested net bid.path.kind cmp rows used bids node number (get_or legs k d) (lists bid.path.kind (get_or legs k d) (usable k d l))).1 (t.1 k d l);
      }

  -- of a bid with a yes leg, the best walk is the best offer
  offer_yes : has_yes node number ≡ true → (best : Option ℤ) → IsBestWorth weights net bid best → IsBestOffer net rows bids node prices number bid best
  offer_yes e None is = record { yes = e; none = λ legs allowed. is legs (allowed_open legs allowed) }
  offer_yes has (Some n) is = record { reached = by is.reached; most = λ m o. above m o }
    where
      by : IsWorth weights net bid n → IsOffer net rows bids node prices number bid n
      by (legs, walk, e) = inr (legs, open_allowed legs walk, e)

      above : (m : ℤ) → IsOffer net rows bids node prices number bid m → m ≤ℤ n
      above m (inl z) = absurd (false≢true (sym z.0 ∙ has))
      above m (inr (legs, allowed, e)) = is.most m (legs, allowed_open legs allowed, e)

  -- and of a bid without one the greater of it and zero
  offer_no : has_yes node number ≡ false → (best : Option ℤ) (n : ℤ) → pos 0 ≤ℤ n → IfSome best (λ b. b ≤ℤ n) → (n ≡ pos 0) ⊎ (best ≡ Some n) → IsBestWorth weights net bid best
      → IsGreatest (IsOffer net rows bids node prices number bid) n
  offer_no none best n least most reached is = record { reached = by best reached is; most = λ m o. above best most is m o }
    where
      by : (best : Option ℤ) → (n ≡ pos 0) ⊎ (best ≡ Some n) → IsBestWorth weights net bid best → IsOffer net rows bids node prices number bid n
      by best (inl z) is = inl (none, z)
      by None (inr e) is = cc
      by (Some b) (inr e) is = let same : b ≡ n = cc in let w = subst (IsWorth weights net bid) same is.reached in inr (w.0, open_allowed w.0 w.1, w.2)

      above : (best : Option ℤ) → IfSome best (λ b. b ≤ℤ n) → IsBestWorth weights net bid best → (m : ℤ) → IsOffer net rows bids node prices number bid m → m ≤ℤ n
      above best most is m (inl z) = let e = z.1 in omega (arith, ints)
      above None most is m (inr (legs, allowed, e)) = absurd (is legs (allowed_open legs allowed))
      above (Some b) most is m (inr (legs, allowed, e)) = let l = is.most m (legs, allowed_open legs allowed, e) in omega (arith, ints)

pub kind_is : (bids : List Bid) (number : ℕ) (bid : Bid) → slice_get bids number ≡ Some bid → kind_at bids number ≡ bid.path.kind
kind_is bids number bid at = ap (λ o. option_map_or (λ (b : Bid). b.path.kind) o (record { 0 = 0 })) at

module _ {R : Type 0} (cmp : R → R → Ordering) (net : Net) (proper : IsProper net) (rows : Rows R) (used : TypeId → Leg → List R) (lists : (kind : TypeId) (leg : Leg) → IsUsable net kind leg → ListsRows cmp rows.is_row (rows.uses kind leg) (used kind leg))
    (bids : List Bid) (node : List Decision) (prices : PriceList R) (number : ℕ) (bid : Bid) (at : slice_get bids number ≡ Some bid) (best : Option ℤ)
    (is : IsBestWorth (leaf_weights net rows used bids node number prices (kind_at bids number)) net bid best) where
  of_kind : IsBestWorth (leaf_weights net rows used bids node number prices bid.path.kind) net bid best
  of_kind = subst (λ kind. IsBestWorth (leaf_weights net rows used bids node number prices kind) net bid best) (kind_is bids number bid at) is

  pub best_yes : has_yes node number ≡ true → IsBestOffer net rows bids node prices number bid best
  best_yes e = offer_yes cmp net proper rows used lists bids node prices number bid e best of_kind

  pub best_no : has_yes node number ≡ false → (n : ℤ) → pos 0 ≤ℤ n → IfSome best (λ b. b ≤ℤ n) → (n ≡ pos 0) ⊎ (best ≡ Some n) → IsGreatest (IsOffer net rows bids node prices number bid) n
  best_no none n least most reached = offer_no cmp net proper rows used lists bids node prices number bid none best n least most reached of_kind

-- the last of a list with one element more, and the others
pub slice_last : {X : Type 0} (xs : List X) (x y : X) → slice_get (xs ++ x ∷ []) (length xs) ≡ Some y → x ≡ y
slice_last [] x y e = cc
slice_last (z ∷ xs) x y e = slice_last xs x y e

pub slice_before : {X : Type 0} (xs : List X) (x y : X) (k : ℕ) → k < length xs → slice_get (xs ++ x ∷ []) k ≡ Some y → slice_get xs k ≡ Some y
slice_before [] x y k l e = absurd (omega arith)
slice_before (z ∷ xs) x y zero l e = e
slice_before (z ∷ xs) x y (suc k) l e = slice_before xs x y k (omega arith) e

-- the sums are small
pub size_more : (n : ℕ) (sum best : Option ℤ) → IfSome sum (IsSumSize n) → IfSome best IsWorthSize → IfSome (plus_of sum best) (IsSumSize (n + 1))
size_more n None best s b = tt
size_more n (Some x) None s b = tt
size_more n (Some x) (Some y) s b = let s0 = s.0 in let s1 = s.1 in let b0 = b.0 in let b1 = b.1 in (omega (arith, ints), omega (arith, ints))

pub size_below : (n m : ℕ) (sum : Option ℤ) → n ≤ m → IfSome sum (IsSumSize n) → IfSome sum (IsSumSize m)
size_below n m None l s = tt
size_below n m (Some x) l s = let s0 = s.0 in let s1 = s.1 in (omega (arith, ints), omega (arith, ints))

module _ {R : Type 0} (net : Net) (rows : Rows R) (bids : List Bid) (node : List Decision) (prices : PriceList R) where
  pub not_stuck : (number : ℕ) (bid : Bid) (n : ℤ) → IsGreatest (IsOffer net rows bids node prices number bid) n → IsStuck net rows bids node number bid → ⊥
  not_stuck number bid n is stuck = by is.reached
    where
      by : IsOffer net rows bids node prices number bid n → ⊥
      by (inl z) = false≢true (sym z.0 ∙ stuck.yes)
      by (inr w) = stuck.none w.0 w.1

  pub terms_none : AreTerms net rows bids node prices 0 (Some (pos 0))
  terms_none = record {
    terms = [];
    count = refl;
    each = λ number bid term at e. cc;
    sum_is = ((λ s. omega (arith, s.2)), refl);
  }

  abbrev term_of : Option ℤ → ℤ
  term_of None = pos 0
  term_of (Some n) = n

  is_term : (number : ℕ) (bid : Bid) (best : Option ℤ) → IsBestOffer net rows bids node prices number bid best → IsTerm net rows bids node prices number bid (term_of best)
  is_term number bid None is = inr (is, refl)
  is_term number bid (Some n) is = inl is

  -- with one bid more
  pub terms_more : (n : ℕ) (sum best : Option ℤ) (bid : Bid) → AreTerms net rows bids node prices n sum → slice_get bids n ≡ Some bid → IsBestOffer net rows bids node prices n bid best → AreTerms net rows bids node prices (n + 1) (plus_of sum best)
  terms_more n sum best bid so_far at is = record {
    terms = so_far.terms ++ term_of best ∷ [];
    count = let c = so_far.count in omega (arith, length-append so_far.terms (term_of best ∷ []));
    each = each;
    sum_is = by sum best so_far.sum_is is;
  }
    where
      each : (number : ℕ) (b : Bid) (term : ℤ) → slice_get bids number ≡ Some b → slice_get (so_far.terms ++ term_of best ∷ []) number ≡ Some term → IsTerm net rows bids node prices number b term
      each number b term there e =
          let c = so_far.count in
          let l = slice_get_within (so_far.terms ++ term_of best ∷ []) number term e in
          let m = length-append so_far.terms (term_of best ∷ []) in
          elim (cases_lt number (length so_far.terms)) as (λ _. IsTerm net rows bids node prices number b term) [
            | inl before ↦ so_far.each number b term there (slice_before so_far.terms (term_of best) term number before e)
            | inr past ↦
                let last : number ≡ length so_far.terms = omega arith in
                let same : number ≡ n = omega arith in
                let same_bid : bid ≡ b = some_same (sym at ∙ ap (slice_get bids) (sym same) ∙ there) in
                let same_term : term_of best ≡ term = slice_last so_far.terms (term_of best) term (subst (λ k. slice_get (so_far.terms ++ term_of best ∷ []) k ≡ Some term) last e) in
                subst (λ t. IsTerm net rows bids node prices number b t) same_term
                (subst (λ x. IsTerm net rows bids node prices number x (term_of best)) same_bid (subst (λ k. IsTerm net rows bids node prices k bid (term_of best)) (sym same) (is_term n bid best is)))
          ]
        where
          some_same : {X : Type 0} {x y : X} → Some x ≡ Some y → x ≡ y
          some_same e = cc

      still : IsStuckBelow net rows bids node n → IsStuckBelow net rows bids node (n + 1)
      still (number, b, l, there, stuck) = (number, b, omega arith, there, stuck)

      none_more : (IsStuckBelow net rows bids node n → ⊥) → (IsStuck net rows bids node n bid → ⊥) → IsStuckBelow net rows bids node (n + 1) → ⊥
      none_more before here (number, b, l, there, stuck) = elim (cases_lt number n) as (λ _. ⊥) [
        | inl less ↦ before (number, b, less, there, stuck)
        | inr past ↦
            let same : number ≡ n = omega arith in
            let same_bid : b ≡ bid = some_same (sym there ∙ ap (slice_get bids) same ∙ at) in
            here (subst (λ k. IsStuck net rows bids node k bid) same (subst (IsStuck net rows bids node number) same_bid stuck))
      ]
        where
          some_same : {X : Type 0} {x y : X} → Some x ≡ Some y → x ≡ y
          some_same e = cc

      by : (sum best : Option ℤ) → MatchOption sum (IsStuckBelow net rows bids node n) (λ total. (IsStuckBelow net rows bids node n → ⊥) × (total ≡ sum_of (λ t. t) so_far.terms))
          → IsBestOffer net rows bids node prices n bid best
          → MatchOption (plus_of sum best) (IsStuckBelow net rows bids node (n + 1)) (λ total. (IsStuckBelow net rows bids node (n + 1) → ⊥) × (total ≡ sum_of (λ t. t) (so_far.terms ++ term_of best ∷ [])))
      by None best s is = still s
      by (Some total) None s is = (n, bid, omega arith, at, is)
      by (Some total) (Some m) s is = (
        none_more s.0 (not_stuck n bid m is),
        (let a = sum_of-append (λ t. t) so_far.terms (m ∷ []) in let o = sum_of-cons (λ (t : ℤ). t) m [] in let e = s.1 in omega (arith, ints)),
      )

  -- the price of capacity and the terms are the dual value
  pub dual_is : (sum : Option ℤ) → AreTerms net rows bids node prices (length bids) sum → IsBoundOf net rows bids node prices (whole_cents (dual_by (capacity_price rows prices) sum))
  dual_is sum are = record {
    terms = are.terms;
    value = dual_by (capacity_price rows prices) sum;
    dual = record { count = are.count; each = are.each; total = by sum are.sum_is };
    cents_is = refl;
  }
    where
      below : IsDead net rows bids node → IsStuckBelow net rows bids node (length bids)
      below (number, b, there, stuck) = (number, b, slice_get_within bids number b there, there, stuck)

      by : (sum : Option ℤ) → MatchOption sum (IsStuckBelow net rows bids node (length bids)) (λ total. (IsStuckBelow net rows bids node (length bids) → ⊥) × (total ≡ sum_of (λ t. t) are.terms))
          → ((IsDead net rows bids node → ⊥) × (dual_by (capacity_price rows prices) sum ≡ capacity_price rows prices +ℤ sum_of (λ t. t) are.terms)) ⊎ (IsDead net rows bids node × (dual_by (capacity_price rows prices) sum ≡ pos 0))
      by None (number, b, l, there, stuck) = inr ((number, b, there, stuck), refl)
      by (Some total) s = inl ((λ d. s.0 (below d)), ap (λ t. capacity_price rows prices +ℤ t) s.1)

-- zero, or a number that is small
pub size_above : (best : Option ℤ) (n : ℤ) → IfSome best IsWorthSize → (n ≡ pos 0) ⊎ (best ≡ Some n) → IsWorthSize n
size_above best n size (inl e) = subst IsWorthSize (sym e) (omega (arith, ints), omega (arith, ints))
size_above best n size (inr e) = subst (λ b. IfSome b IsWorthSize) e size
