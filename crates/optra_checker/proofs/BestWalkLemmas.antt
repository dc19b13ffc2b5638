-- What the best walk at a node is worth bounds the walks at all nodes below it, and a walk that stays allowed stays the best.
use Rattle.std.proofs.Common.{◌≡◌, ℕ, ◌+◌, ◌-◌, ◌<◌, ◌≤◌, ◌⊎◌, ◌≢◌, Bool, true, false, not, cond, List, [], ◌∷◌, ◌++◌, length, get_or, take, set, Option, None, Some, slice_get, IfSome, refl, sym, ap, ◌∙◌, subst, arith, inl, inr}
use Rattle.std.specs.Prelude.{All, IsSomeAnd, is_some, ◌&&◌, ◌||◌, nat_eq, nat_lt, nat_le, min}
use Rattle.std.specs.Prelude.{ℤ, pos, ◌*ℤ◌, ◌≤ℤ◌}
use Rattle.std.specs.List.{list_all}
use Rattle.std.specs.declared.cmp.Ordering.{Ordering}
use Rattle.std.proofs.lemmas.Bool.{cases_lt, cases_eq, false≢true}
use Rattle.std.proofs.lemmas.Bool.Decides.{nat_tests}
use Rattle.std.proofs.lemmas.Int.{ints}
use Rattle.std.proofs.lemmas.List.{length-append, length-set, get_or-set_same, get_or-set_other, length-take, length-take-le, take_more, take_all, take-take}
use Rattle.std.proofs.lemmas.List.Elements.{All-push, All-take}
use Rattle.std.proofs.lemmas.List.Sums.{AllPass-from_list_all, list_all-from_AllPass, sum_by-take-le, sum_by_push}
use Rattle.std.proofs.lemmas.Option.{slice_get-get_or, slice_get_within, get_or_from_slice_get}
use Rattle.optra_network.specs.Net.{Net, IsProper}
use Rattle.optra_network.specs.declared.TypeId.{TypeId}
use Rattle.optra_bid.specs.declared.bids.Bid.{Bid}
use Rattle.optra_walk.specs.declared.Leg.{Leg}
use Rattle.optra_walk.specs.Families.{Rows, IsUsable, ListsRows}
use Rattle.optra_walk.specs.Values.{value_of, first_departure}
use Rattle.optra_walk.proofs.UsableLemmas.{walk_usable}
use Rattle.optra_node.specs.declared.Decision.{Decision}
use Rattle.optra_node.specs.Nodes.{IsBlocked, is_yes_for, kind_at, others_load, uses_at, yes_uses}
use Rattle.optra_node.specs.Duals.{PriceList, ArePrices}
use Rattle.optra_node.specs.Spans.{Lets}
use Rattle.optra_checker.specs.BestOnWay.{IsCeiling, weights_within, IsBestWalk, last_best, AreBestOnWay, AreBestOf, AreTurned, AreAllBest}
use Rattle.optra_open.specs.Loaded.{AreLastRows, IsMissing, KeepsOff}
use Rattle.optra_checker.specs.Frees.{free_weights, Attains, IsFree, IsStillFree}
use Rattle.optra_open.specs.NodeWeights.{leaf_weights}
use Rattle.optra_open.specs.Tests.{may_start_at, lets_leg, all_let, has_room, may_have_leg}
use Rattle.optra_rests.specs.Weights.{Weights, IsOpenWalk, IsBestWorth, IsWorthSize, worth_of}
use Rattle.optra_checker.specs.declared.best_walk.BestWalk.{BestWalk}
use Rattle.optra_checker.specs.declared.best_on_way.BestOnWay.{BestOnWay}
use Rattle.optra_checker.proofs.LeastPriceLemmas.{sum_least, price_least}
use Rattle.optra_checker.proofs.LeafLemmas.{kind_is}
use Rattle.optra_open.proofs.LeafPriceLemmas.{none_left}
use Rattle.optra_open.proofs.LoadedLemmas.{off_free}
use Rattle.optra_open.proofs.TestLemmas.{start_tested, leg_tested}

-- a test of each element, of the first ones alone
list_all_take : {X : Type 0} (p : X → Bool) (xs : List X) (k : ℕ) → list_all p xs ≡ true → list_all p (take k xs) ≡ true
list_all_take p xs k e = list_all-from_AllPass p (take k xs) (All-take (λ x. p x ≡ true) k xs (AllPass-from_list_all p xs e))

-- a test that is passed wherever another one is
list_all_weaker : {X : Type 0} (p q : X → Bool) → ((x : X) → p x ≡ true → q x ≡ true) → (xs : List X) → list_all p xs ≡ true → list_all q xs ≡ true
list_all_weaker p q f xs e = list_all-from_AllPass q xs (λ k d l. f (get_or xs k d) (AllPass-from_list_all p xs e k d l))

both : (a b : Bool) → (a && b) ≡ true → (a ≡ true) × (b ≡ true)
both true b e = (refl, e)
both false b e = absurd (false≢true e)

both_again : (a b : Bool) → a ≡ true → b ≡ true → (a && b) ≡ true
both_again true true e f = refl
both_again true false e f = absurd (false≢true f)
both_again false b e f = absurd (false≢true e)

fits_less : (less more most : ℕ) → less ≤ more → nat_le more most ≡ true → nat_le less most ≡ true
fits_less less more most l e = let m : more ≤ most = grind (arith, nat_tests) in let k : less ≤ most = omega arith in grind (arith, nat_tests)

-- the node of fewer decisions allows more
module _ {R : Type 0} (net : Net) (rows : Rows R) (used : TypeId → Leg → List R) (bids : List Bid) (number : ℕ) (kind : TypeId) (node : List Decision) (k : ℕ) where
  start_less : (minute : ℕ) → may_start_at node number minute ≡ true → may_start_at (take k node) number minute ≡ true
  start_less minute e = list_all_take (λ d. not (is_yes_for number d && nat_lt d.leg.depart minute)) node k e

  leg_less : (leg : Leg) → may_have_leg net rows used bids node number kind leg ≡ true → may_have_leg net rows used bids (take k node) number kind leg ≡ true
  leg_less leg e =
      let h = both (all_let net node number kind leg) (has_room rows used bids node number kind leg) e in
      both_again (all_let net (take k node) number kind leg) (has_room rows used bids (take k node) number kind leg)
      (list_all_take (λ d. not (nat_eq d.bid number) || lets_leg net kind d leg) node k h.0)
      (list_all_weaker (λ row. nat_le (rows.uses kind leg row + others_load rows bids node number row) (rows.capacity row))
      (λ row. nat_le (rows.uses kind leg row + others_load rows bids (take k node) number row) (rows.capacity row))
      (λ row f.
      let o = sum_by-take-le (λ d. cond (d.yes && not (nat_eq d.bid number)) (uses_at rows bids row d.bid d.leg) 0) node k in
      fits_less (rows.uses kind leg row + others_load rows bids (take k node) number row) (rows.uses kind leg row + others_load rows bids node number row) (rows.capacity row) (omega (arith, o)) f) (used kind leg) h.1)

  open_less : (prices : PriceList R) (bid : Bid) (legs : List Leg) → IsOpenWalk (leaf_weights net rows used bids node number prices kind) net bid.path legs
      → IsOpenWalk (leaf_weights net rows used bids (take k node) number [] kind) net bid.path legs
  open_less prices bid legs h = record { walk = h.walk; start = start_less (first_departure legs) h.start; each = λ j d l. leg_less (get_or legs j d) (h.each j d l) }

  pub ceiling_below : (prices : PriceList R) (bid : Bid) (best : Option ℤ) → IsCeiling (leaf_weights net rows used bids (take k node) number [] kind) net bid best
      → IsCeiling (leaf_weights net rows used bids node number prices kind) net bid best
  ceiling_below prices bid None is = λ legs h. is legs (open_less prices bid legs h)
  ceiling_below prices bid (Some n) is = λ legs h. is legs (open_less prices bid legs h)

  pub still_less : (legs : List Leg) → IsStillFree (leaf_weights net rows used bids node number [] kind) legs → IsStillFree (leaf_weights net rows used bids (take k node) number [] kind) legs
  still_less legs h = record {
    start = start_less (first_departure legs) h.start;
    each = λ j d l. record { may = leg_less (get_or legs j d) (h.each j d l).may; none = refl };
  }

-- one decision more that does not bear on legs
module _ {R : Type 0} (cmp : R → R → Ordering) (net : Net) (rows : Rows R) (used : TypeId → Leg → List R) (bids : List Bid) (number : ℕ) (kind : TypeId) (node : List Decision) (d : Decision) (listed : List R)
    (lists : (leg : Leg) → IsUsable net kind leg → ListsRows cmp rows.is_row (rows.uses kind leg) (used kind leg)) (other : d.bid ≡ number → ⊥)
    (spared : (row : R) → IsMissing cmp listed row → yes_uses rows bids row d ≡ 0) where
  no_more : (y n : Bool) (u : ℕ) → cond y u 0 ≡ 0 → cond (y && n) u 0 ≡ 0
  no_more true true u e = e
  no_more true false u e = refl
  no_more false n u e = refl

  unblocked : (leg : Leg) → KeepsOff cmp rows kind listed leg → (IsBlocked rows bids node number kind leg → ⊥) → IsBlocked rows bids (node ++ d ∷ []) number kind leg → ⊥
  unblocked leg keeps free (row, b) =
      let p = sum_by_push (λ (e : Decision). cond (e.yes && not (nat_eq e.bid number)) (uses_at rows bids row e.bid e.leg) 0) node d in
      let z = no_more d.yes (not (nat_eq d.bid number)) (uses_at rows bids row d.bid d.leg) (spared row (keeps.off row b.used)) in
      let above = b.above in
      free (row, record { is_row = b.is_row; used = b.used; above = omega (arith, p, z, above) })

  leg_more : (leg : Leg) → IsUsable net kind leg → KeepsOff cmp rows kind listed leg → may_have_leg net rows used bids node number kind leg ≡ true → may_have_leg net rows used bids (node ++ d ∷ []) number kind leg ≡ true
  leg_more leg usable keeps e =
      let ok = (leg_tested net kind cmp rows used bids node number leg (lists leg usable)).0 e in
      (leg_tested net kind cmp rows used bids (node ++ d ∷ []) number leg (lists leg usable)).1 (record {
        let_by = All-push (λ (e : Decision). e.bid ≡ number → Lets net kind e leg) node d ok.let_by (λ b. absurd (other b));
        free = unblocked leg keeps ok.free;
      })

  start_more : (minute : ℕ) → may_start_at node number minute ≡ true → may_start_at (node ++ d ∷ []) number minute ≡ true
  start_more minute e =
      (start_tested (node ++ d ∷ []) number minute).1
      (All-push (λ (e : Decision). e.bid ≡ number → e.yes ≡ true → minute ≤ e.leg.depart) node d ((start_tested node number minute).0 e) (λ b. absurd (other b)))

  pub still_more : (legs : List Leg) → All (IsUsable net kind) legs → All (KeepsOff cmp rows kind listed) legs → IsStillFree (leaf_weights net rows used bids node number [] kind) legs
      → IsStillFree (leaf_weights net rows used bids (node ++ d ∷ []) number [] kind) legs
  still_more legs usable keeps h = record {
    start = start_more (first_departure legs) h.start;
    each = λ j x l. record { may = leg_more (get_or legs j x) (usable j x l) (keeps j x l) (h.each j x l).may; none = refl };
  }

-- nothing bears on legs where nothing is decided
module _ {R : Type 0} (cmp : R → R → Ordering) (net : Net) (rows : Rows R) (used : TypeId → Leg → List R) (bids : List Bid) (number : ℕ) (kind : TypeId)
    (lists : (leg : Leg) → IsUsable net kind leg → ListsRows cmp rows.is_row (rows.uses kind leg) (used kind leg)) where
  pub still_at_root : (legs : List Leg) → All (IsUsable net kind) legs → All (KeepsOff cmp rows kind []) legs → IsStillFree (leaf_weights net rows used bids [] number [] kind) legs
  still_at_root legs usable keeps = record {
    start = refl;
    each = λ j x l. record {
      may = (leg_tested net kind cmp rows used bids [] number (get_or legs j x) (lists (get_or legs j x) (usable j x l))).1 (record {
        let_by = λ i d m. absurd (omega (arith, m));
        free = off_free cmp rows kind [] (get_or legs j x) (used kind (get_or legs j x)) bids [] number (λ row missing. refl) (keeps j x l);
      });
      none = refl;
    };
  }

abbrev no_decisions : List Decision
no_decisions = []

module _ (w : Weights) (net : Net) (bid : Bid) where
  -- a walk that is worth a ceiling is the best
  pub reached_best : ((leg : Leg) → pos 0 ≤ℤ w.cost_of leg) → (best : Option ℤ) (legs : List Leg) → IsCeiling w net bid best → Attains net bid best legs → IsStillFree w legs → IsBestWorth w net bid best
  reached_best least None legs is attains still = let e = attains.worth in cc
  reached_best least (Some n) legs is attains still = record {
    reached = (legs, record { walk = attains.walk; start = still.start; each = λ k d l. (still.each k d l).may }, same);
    most = λ m c.
        let l = is c.0 c.1 in
        let s = sum_least w.cost_of c.0 (λ k d l. least (get_or c.0 k d)) in
        let e = c.2 in
        omega (arith, ints, l, s, e);
  }
    where
      some_same : (a b : ℤ) → Some a ≡ Some b → a ≡ b
      some_same a b e = cc

      same : n ≡ worth_of w net bid legs
      same =
          let e = some_same n (pos 1000 *ℤ value_of net bid.path bid.money legs) attains.worth in
          let z = none_left w.cost_of legs (λ j d l. (still.each j d l).none) in
          omega (arith, ints, e, z)

  -- where legs cost nothing, the best is a ceiling
  pub best_ceiling : ((leg : Leg) → w.cost_of leg ≡ pos 0) → (best : Option ℤ) → IsBestWorth w net bid best → IsCeiling w net bid best
  best_ceiling none None is = is
  best_ceiling none (Some n) is = λ legs h.
      let l = is.most (worth_of w net bid legs) (legs, h, refl) in
      let z = none_left w.cost_of legs (λ j d l. none (get_or legs j d)) in
      omega (arith, ints, l, z)

  -- the best of all walks bounds those that may be had
  pub free_ceiling : (best : Option ℤ) → IsCeiling (free_weights net bid.path.kind) net bid best → IsCeiling w net bid best
  free_ceiling None is = λ legs h. is legs (record { walk = h.walk; start = refl; each = λ k d l. refl })
  free_ceiling (Some n) is = λ legs h. is legs (record { walk = h.walk; start = refl; each = λ k d l. refl })

module _ {R : Type 0} (net : Net) (rows : Rows R) (used : TypeId → Leg → List R) (bids : List Bid) (number : ℕ) where
  abbrev within_weights : List Decision → Weights
  within_weights node = leaf_weights net rows used bids node number [] (kind_at bids number)

  -- first decisions of first decisions
  same_within : (node : List Decision) (a b : ℕ) → a ≤ b → (P : Weights → Type 0) → P (within_weights (take a node)) → P (within_weights (take a (take b node)))
  same_within node a b l P h = subst (λ ds. P (within_weights ds)) (sym (take-take a b node l)) h

  from_within : (node : List Decision) (a b : ℕ) → a ≤ b → (P : Weights → Type 0) → P (within_weights (take a (take b node))) → P (within_weights (take a node))
  from_within node a b l P h = subst (λ ds. P (within_weights ds)) (take-take a b node l) h

  -- fewer decisions allow the legs, too
  pub still_within : (node : List Decision) (a b : ℕ) (legs : List Leg) → a ≤ b → IsStillFree (within_weights (take b node)) legs → IsStillFree (within_weights (take a node)) legs
  still_within node a b legs l h = from_within node a b l (λ w. IsStillFree w legs) (still_less net rows used bids number (kind_at bids number) (take b node) a legs h)

  module _ (bid : Bid) where
    -- a best walk of a node of few decisions is one of the node of first decisions that has it
    left_one : (node : List Decision) (k : ℕ) (best : BestWalk) → k ≤ length node → best.depth ≤ k → IsBestWalk net rows used bids node number bid best → IsBestWalk net rows used bids (take k node) number bid best
    left_one node k best l within is = record {
      depth = omega (arith, within, length-take-le k node l);
      ceiling = same_within node best.depth k within (λ w. IsCeiling w net bid best.worth) is.ceiling;
      size = is.size;
      walk = is.walk;
      still = λ some. same_within node best.depth k within (λ w. IsStillFree w best.legs.items) (is.still some);
    }

    lifted_one : (node : List Decision) (k : ℕ) (best : BestWalk) → IsBestWalk net rows used bids (take k node) number bid best → IsBestWalk net rows used bids node number bid best
    lifted_one node k best is =
        let d = is.depth in
        let n = length-take k node in
        let within : best.depth ≤ k = omega (arith, d, n) in
        record {
          depth = omega (arith, d, n);
          ceiling = from_within node best.depth k within (λ w. IsCeiling w net bid best.worth) is.ceiling;
          size = is.size;
          walk = is.walk;
          still = λ some. from_within node best.depth k within (λ w. IsStillFree w best.legs.items) (is.still some);
        }

    -- at a node with further decisions they are best walks, too
    pub lifted : (node : List Decision) (k : ℕ) (walks : BestOnWay) → AreBestOnWay net rows used bids (take k node) number bid walks → AreBestOnWay net rows used bids node number bid walks
    lifted node k walks are =
        let w = are.within in
        let n = length-take k node in
        let held_in : walks.allowed_depth ≤ k = omega (arith, w, n) in
        record {
          each = λ j d l. lifted_one node k (get_or walks.kept.items j d) (are.each j d l);
          within = omega (arith, w, n);
          allowed_depth = weaker (last_best walks) are.allowed_depth held_in;
        }
      where
        weaker : (o : Option BestWalk) → IfSome o (λ best. 0 < length best.legs.items → IsStillFree (weights_within net rows used bids (take k node) number walks.allowed_depth) best.legs.items) → walks.allowed_depth ≤ k
            → IfSome o (λ best. 0 < length best.legs.items → IsStillFree (weights_within net rows used bids node number walks.allowed_depth) best.legs.items)
        weaker None h l = tt
        weaker (Some best) h l = λ some. from_within node walks.allowed_depth k l (λ w. IsStillFree w best.legs.items) (h some)

    -- the walks of the first decisions, where none of later nodes are left
    left_same : (node : List Decision) (k : ℕ) (walks after : BestOnWay) → k ≤ length node → after.kept.items ≡ walks.kept.items → after.allowed_depth ≡ min walks.allowed_depth k → All (λ best. best.depth ≤ k) walks.kept.items
        → AreBestOnWay net rows used bids node number bid walks → AreBestOnWay net rows used bids (take k node) number bid after
    left_same node k walks after l kept allowed_depth within are = record {
      each = subst (All (IsBestWalk net rows used bids (take k node) number bid)) (sym kept) (λ j d m. left_one node k (get_or walks.kept.items j d) l (within j d m) (are.each j d m));
      within = omega (arith, allowed_depth, length-take-le k node l);
      allowed_depth = subst (λ list. IfSome (slice_get list (length list - 1)) Held) (sym kept) (stays (last_best walks) are.allowed_depth);
    }
      where
        Held : BestWalk → Type 0
        Held best = 0 < length best.legs.items → IsStillFree (weights_within net rows used bids (take k node) number after.allowed_depth) best.legs.items

        stays : (o : Option BestWalk) → IfSome o (λ best. 0 < length best.legs.items → IsStillFree (weights_within net rows used bids node number walks.allowed_depth) best.legs.items) → IfSome o Held
        stays None h = tt
        stays (Some best) h = λ some.
            same_within node after.allowed_depth k (omega (arith, allowed_depth)) (λ w. IsStillFree w best.legs.items) (still_within node after.allowed_depth walks.allowed_depth best.legs.items (omega (arith, allowed_depth)) (h some))

    -- and where some are
    left_some : (node : List Decision) (k n : ℕ) (walks after : BestOnWay) → k ≤ length node → after.kept.items ≡ take n walks.kept.items → after.allowed_depth ≡ 0 → All (λ best. best.depth ≤ k) (take n walks.kept.items)
        → AreBestOnWay net rows used bids node number bid walks → AreBestOnWay net rows used bids (take k node) number bid after
    left_some node k n walks after l kept allowed_depth within are = record {
      each = subst (All (IsBestWalk net rows used bids (take k node) number bid)) (sym kept) each;
      within = omega (arith, allowed_depth);
      allowed_depth = by (last_best after) refl;
    }
      where
        first : All (IsBestWalk net rows used bids node number bid) (take n walks.kept.items)
        first = All-take (IsBestWalk net rows used bids node number bid) n walks.kept.items are.each

        each : All (IsBestWalk net rows used bids (take k node) number bid) (take n walks.kept.items)
        each j d m = left_one node k (get_or (take n walks.kept.items) j d) l (within j d m) (first j d m)

        by : (o : Option BestWalk) → last_best after ≡ o → IfSome o (λ best. 0 < length best.legs.items → IsStillFree (weights_within net rows used bids (take k node) number after.allowed_depth) best.legs.items)
        by None e = tt
        by (Some best) e = λ some.
            let m = slice_get_within after.kept.items (length after.kept.items - 1) best e in
            let at : get_or after.kept.items (length after.kept.items - 1) best ≡ best = get_or_from_slice_get after.kept.items (length after.kept.items - 1) best best e in
            let is : IsBestWalk net rows used bids (take k node) number bid best =
            subst (IsBestWalk net rows used bids (take k node) number bid) at (subst (All (IsBestWalk net rows used bids (take k node) number bid)) (sym kept) each (length after.kept.items - 1) best m) in
            still_within (take k node) after.allowed_depth best.depth best.legs.items (omega (arith, allowed_depth)) (is.still some)

    -- turned back to a node on the way
    pub turned_one : (node : List Decision) (k : ℕ) (walks after : BestOnWay) → k ≤ length node → AreTurned k walks after → AreBestOnWay net rows used bids node number bid walks → AreBestOnWay net rows used bids (take k node) number bid after
    turned_one node k walks after l t are = by t.allowed_depth
      where
        by : (after.allowed_depth ≡ 0) ⊎ ((after.kept.items ≡ walks.kept.items) × (after.allowed_depth ≡ min walks.allowed_depth k)) → AreBestOnWay net rows used bids (take k node) number bid after
        by (inl none) = left_some node k (length after.kept.items) walks after l t.first none (subst (All (λ (best : BestWalk). best.depth ≤ k)) t.first t.within) are
        by (inr same) = left_same node k walks after l same.0 same.1 (subst (All (λ (best : BestWalk). best.depth ≤ k)) same.0 t.within) are

    at_end : {X : Type 0} (xs : List X) (x : X) → slice_get (xs ++ x ∷ []) (length xs) ≡ Some x
    at_end [] x = refl
    at_end (y ∷ xs) x = at_end xs x

    last_pushed : {X : Type 0} (xs : List X) (x : X) → slice_get (xs ++ x ∷ []) (length (xs ++ x ∷ []) - 1) ≡ Some x
    last_pushed xs x =
        let place : length (xs ++ x ∷ []) - 1 ≡ length xs = omega (arith, length-append xs (x ∷ [])) in
        ap (slice_get (xs ++ x ∷ [])) place ∙ at_end xs x

    -- or one more
    pub brought_more : (node : List Decision) (walks after : BestOnWay) (best : BestWalk) → after.kept.items ≡ walks.kept.items ++ best ∷ [] → after.allowed_depth ≡ length node
        → best.depth ≡ length node → IsBestWorth (within_weights node) net bid best.worth → IfSome best.worth IsWorthSize → (0 < length best.legs.items → Attains net bid best.worth best.legs.items)
        → (0 < length best.legs.items → IsStillFree (within_weights node) best.legs.items)
        → AreBestOnWay net rows used bids node number bid walks → AreBestOnWay net rows used bids node number bid after
    brought_more node walks after best kept allowed_depth depth is size walk still are = record {
      each = subst (All (IsBestWalk net rows used bids node number bid)) (sym kept) (All-push (IsBestWalk net rows used bids node number bid) walks.kept.items best are.each here);
      within = omega (arith, allowed_depth);
      allowed_depth = subst (λ o. IfSome o (λ b. 0 < length b.legs.items → IsStillFree (weights_within net rows used bids node number after.allowed_depth) b.legs.items)) (sym last)
          (λ some. subst (λ ds. IsStillFree (within_weights ds) best.legs.items) (sym (take_all after.allowed_depth node (omega (arith, allowed_depth)))) (still some));
    }
      where
        all : take best.depth node ≡ node
        all = take_all best.depth node (omega (arith, depth))

        here : IsBestWalk net rows used bids node number bid best
        here = record {
          depth = omega (arith, depth);
          ceiling = subst (λ ds. IsCeiling (within_weights ds) net bid best.worth) (sym all) (best_ceiling (within_weights node) net bid (λ leg. refl) best.worth is);
          size = size;
          walk = walk;
          still = λ some. subst (λ ds. IsStillFree (within_weights ds) best.legs.items) (sym all) (still some);
        }

        last : last_best after ≡ Some best
        last = ap (λ list. slice_get list (length list - 1)) kept ∙ last_pushed walks.kept.items best

    -- the best of all walks is the best at the root
    pub free_walks : (cmp : R → R → Ordering) → (at : slice_get bids number ≡ Some bid) → IsProper net
        → ((leg : Leg) → IsUsable net (kind_at bids number) leg → ListsRows cmp rows.is_row (rows.uses (kind_at bids number) leg) (used (kind_at bids number) leg))
        → (walks : BestOnWay) (free : BestWalk) → walks.kept.items ≡ free ∷ [] → walks.allowed_depth ≡ 0 → IsFree cmp net rows bid free → AreBestOnWay net rows used bids [] number bid walks
    free_walks cmp at proper lists walks free kept allowed_depth is = record {
      each = subst (All (IsBestWalk net rows used bids [] number bid)) (sym kept) (All-push (IsBestWalk net rows used bids [] number bid) [] free (λ j d l. absurd (omega (arith, l))) here);
      within = omega (arith, allowed_depth);
      allowed_depth = subst (λ list. IfSome (slice_get list (length list - 1)) (λ b. 0 < length b.legs.items → IsStillFree (weights_within net rows used bids [] number walks.allowed_depth) b.legs.items)) (sym kept)
          (λ some. subst (λ ds. IsStillFree (within_weights ds) free.legs.items) (sym (take_all walks.allowed_depth [] (omega arith))) (still some));
    }
      where
        kind : kind_at bids number ≡ bid.path.kind
        kind = kind_is bids number bid at

        still : 0 < length free.legs.items → IsStillFree (within_weights []) free.legs.items
        still some =
            let usable = subst (λ t. All (IsUsable net t) free.legs.items) (sym kind) (walk_usable net proper bid free.legs.items (is.walk some).walk) in
            let keeps = subst (λ t. All (KeepsOff cmp rows t []) free.legs.items) (sym kind) (is.fits some) in
            still_at_root cmp net rows used bids number (kind_at bids number) lists free.legs.items usable keeps

        none : take free.depth no_decisions ≡ no_decisions
        none = take_all free.depth no_decisions (omega arith)

        here : IsBestWalk net rows used bids [] number bid free
        here = record {
          depth = let d = is.depth in omega (arith, d);
          ceiling = free_ceiling (weights_within net rows used bids [] number free.depth) net bid free.worth (best_ceiling (free_weights net bid.path.kind) net bid (λ leg. refl) free.worth is.best);
          size = is.size;
          walk = is.walk;
          still = λ some. subst (λ ds. IsStillFree (within_weights ds) free.legs.items) (sym none) (still some);
        }

    -- the best walk of an earlier node, at the open one
    pub best_below : (node : List Decision) (prices : PriceList R) (best : BestWalk) → ArePrices rows prices → IsBestWalk net rows used bids node number bid best
        → IsStillFree (leaf_weights net rows used bids node number prices (kind_at bids number)) best.legs.items → 0 < length best.legs.items
        → IsBestWorth (leaf_weights net rows used bids node number prices (kind_at bids number)) net bid best.worth
    best_below node prices best are is still some =
        reached_best (leaf_weights net rows used bids node number prices (kind_at bids number)) net bid (price_least rows prices are (kind_at bids number)) best.worth best.legs.items
        (ceiling_below net rows used bids number (kind_at bids number) node best.depth prices bid best.worth is.ceiling) (is.walk some) still

    pub none_below : (node : List Decision) (prices : PriceList R) (best : BestWalk) → IsBestWalk net rows used bids node number bid best → best.worth ≡ None
        → IsBestWorth (leaf_weights net rows used bids node number prices (kind_at bids number)) net bid best.worth
    none_below node prices best is none =
        subst (IsBestWorth (leaf_weights net rows used bids node number prices (kind_at bids number)) net bid) (sym none)
        (ceiling_below net rows used bids number (kind_at bids number) node best.depth prices bid None (subst (IsCeiling (weights_within net rows used bids node number best.depth) net bid) none is.ceiling))

-- of all bids
module _ {R : Type 0} (net : Net) (rows : Rows R) (used : TypeId → Leg → List R) (bids : List Bid) where
  of_lifted : (node : List Decision) (k number : ℕ) (walks : BestOnWay) (o : Option Bid) → IsSomeAnd o (λ b. AreBestOnWay net rows used bids (take k node) number b walks) → IsSomeAnd o (λ b. AreBestOnWay net rows used bids node number b walks)
  of_lifted node k number walks None h = h
  of_lifted node k number walks (Some b) h = lifted net rows used bids number b node k walks h

  -- the same first decisions have the same best walks
  pub all_turned : (node next : List Decision) (k : ℕ) (walks : List BestOnWay) → take k next ≡ take k node → AreAllBest net rows used bids (take k node) walks → AreAllBest net rows used bids next walks
  all_turned node next k walks same are = record {
    count = are.count;
    each = λ number d l.
        of_lifted next k number (get_or walks number d) (slice_get bids number) (subst (λ ds. AreBestOf net rows used bids ds number (get_or walks number d)) (sym same) (are.each number d l));
  }

  -- with those of one bid anew
  pub all_set : (node : List Decision) (walks : List BestOnWay) (number : ℕ) (best : BestOnWay) → AreAllBest net rows used bids node walks → AreBestOf net rows used bids node number best → AreAllBest net rows used bids node (set walks number best)
  all_set node walks number best are is = record {
    count = length-set walks number best ∙ are.count;
    each = λ n d l. let e = length-set walks number best in by n d (omega (arith, l, e)) (cases_eq n number);
  }
    where
      by : (n : ℕ) (d : BestOnWay) → n < length walks → (n ≡ number) ⊎ (n ≢ number) → AreBestOf net rows used bids node n (get_or (set walks number best) n d)
      by n d l (inl same) = subst (λ m. AreBestOf net rows used bids node m (get_or (set walks number best) m d)) (sym same)
          (subst (AreBestOf net rows used bids node number) (sym (get_or-set_same walks number best d (omega (arith, l, same)))) is)
      by n d l (inr other) = subst (AreBestOf net rows used bids node n) (sym (get_or-set_other walks number n best d other)) (are.each n d l)

  -- of the first bids those of fewer decisions, and of the others those of the node
  pub record AreLeft (node : List Decision) (depth i : ℕ) (walks : List BestOnWay) : Type 0 where
    pub count : length walks ≡ length bids
    pub before : (number : ℕ) (d : BestOnWay) → number < i → number < length walks → AreBestOf net rows used bids (take depth node) number (get_or walks number d)
    pub behind : (number : ℕ) (d : BestOnWay) → i ≤ number → number < length walks → AreBestOf net rows used bids node number (get_or walks number d)

  -- with those of one bid more
  pub left_set : (node : List Decision) (depth i : ℕ) (walks : List BestOnWay) (best : BestOnWay) → AreLeft node depth i walks → AreBestOf net rows used bids (take depth node) i best → AreLeft node depth (i + 1) (set walks i best)
  left_set node depth i walks best are is = record {
    count = length-set walks i best ∙ are.count;
    before = λ n d b l. let e = length-set walks i best in by n d b (omega (arith, l, e)) (cases_lt n i);
    behind = λ n d b l.
        let e = length-set walks i best in
        subst (AreBestOf net rows used bids node n) (sym (get_or-set_other walks i n best d (λ same. omega (arith, b, same)))) (are.behind n d (omega (arith, b)) (omega (arith, l, e)));
  }
    where
      by : (n : ℕ) (d : BestOnWay) → n < i + 1 → n < length walks → (n < i) ⊎ (i ≤ n) → AreBestOf net rows used bids (take depth node) n (get_or (set walks i best) n d)
      by n d b l (inl first) = subst (AreBestOf net rows used bids (take depth node) n) (sym (get_or-set_other walks i n best d (λ same. omega (arith, first, same)))) (are.before n d first l)
      by n d b l (inr last) =
          let same : n ≡ i = omega (arith, b, last) in
          subst (λ m. AreBestOf net rows used bids (take depth node) m (get_or (set walks i best) m d)) (sym same)
          (subst (AreBestOf net rows used bids (take depth node) i) (sym (get_or-set_same walks i best d (omega (arith, l, same)))) is)

-- what holds of the bid at a position
pub some_has : {X : Type 0} (P : X → Type 0) (o : Option X) (x : X) → o ≡ Some x → IsSomeAnd o P → P x
some_has P o x e h = subst (λ v. IsSomeAnd v P) e h

pub some_and : {X : Type 0} (P Q : X → Type 0) (o : Option X) → ((x : X) → o ≡ Some x → P x → Q x) → IsSomeAnd o P → IsSomeAnd o Q
some_and P Q None f h = h
some_and P Q (Some x) f h = f x refl h

pub missing_none : (o : Option ℤ) → not (is_some o) ≡ true → o ≡ None
missing_none None e = refl
missing_none (Some n) e = absurd (false≢true e)

-- the legs that are at hand may be asked of
pub attains_usable : (net : Net) (bids : List Bid) (number : ℕ) (worth : Option ℤ) (legs : List Leg) → IsProper net → (b : Bid) → slice_get bids number ≡ Some b → Attains net b worth legs → All (IsUsable net (kind_at bids number)) legs
attains_usable net bids number worth legs proper b at is = subst (λ kind. All (IsUsable net kind) legs) (sym (kind_is bids number b at)) (walk_usable net proper b legs is.walk)

pub best_usable : {R : Type 0} (net : Net) (rows : Rows R) (used : TypeId → Leg → List R) (bids : List Bid) (node : List Decision) (number : ℕ) (best : BestWalk) → IsProper net
    → IsSomeAnd (slice_get bids number) (λ b. IsBestWalk net rows used bids node number b best) → All (IsUsable net (kind_at bids number)) best.legs.items
best_usable net rows used bids node number best proper is = by (slice_get bids number) refl is
  where
    by : (o : Option Bid) → slice_get bids number ≡ o → IsSomeAnd o (λ b. IsBestWalk net rows used bids node number b best) → All (IsUsable net (kind_at bids number)) best.legs.items
    by None e h = absurd h
    by (Some b) e h = elim (cases_lt 0 (length best.legs.items)) as (λ _. All (IsUsable net (kind_at bids number)) best.legs.items) [
      | inl some ↦ attains_usable net bids number best.worth best.legs.items proper b e (h.walk some)
      | inr none ↦ λ j d m. absurd (omega (arith, none, m))
    ]

-- the last of the best walks
pub last_is : {R : Type 0} (net : Net) (rows : Rows R) (used : TypeId → Leg → List R) (bids : List Bid) (node : List Decision) (number : ℕ) (walks : BestOnWay) (best : BestWalk) → last_best walks ≡ Some best
    → AreBestOf net rows used bids node number walks → IsSomeAnd (slice_get bids number) (λ b. IsBestWalk net rows used bids node number b best)
last_is net rows used bids node number walks best at are = some_and (λ b. AreBestOnWay net rows used bids node number b walks) (λ b. IsBestWalk net rows used bids node number b best) (slice_get bids number) (λ b e h. one b h) are
  where
    one : (b : Bid) → AreBestOnWay net rows used bids node number b walks → IsBestWalk net rows used bids node number b best
    one b h =
        let l = slice_get_within walks.kept.items (length walks.kept.items - 1) best at in
        subst (IsBestWalk net rows used bids node number b) (get_or_from_slice_get walks.kept.items (length walks.kept.items - 1) best best at) (h.each (length walks.kept.items - 1) best l)

-- a node, by its last decision
pub last_decision : (node : List Decision) (allowed_depth : ℕ) (d : Decision) → allowed_depth + 1 ≡ length node → slice_get node (length node - 1) ≡ Some d → node ≡ take allowed_depth node ++ d ∷ []
last_decision node allowed_depth d one at =
    let place : length node - 1 ≡ allowed_depth = omega (arith, one) in
    let l : allowed_depth < length node = omega (arith, one) in
    let there : get_or node allowed_depth d ≡ d = get_or_from_slice_get node allowed_depth d d (ap (slice_get node) (sym place) ∙ at) in
    sym (take_all (allowed_depth + 1) node (omega (arith, one))) ∙ take_more node allowed_depth d l ∙ ap (λ x. take allowed_depth node ++ x ∷ []) there

-- what holds of the last decision, where there is one
pub last_has : (P : Decision → Type 0) (node : List Decision) (allowed_depth : ℕ) → allowed_depth + 1 ≡ length node → IfSome (slice_get node (length node - 1)) P
    → (d : Decision) × (node ≡ take allowed_depth node ++ d ∷ []) × P d
last_has P node allowed_depth one h = by (slice_get node (length node - 1)) refl h
  where
    none : (xs : List Decision) → 0 < length xs → slice_get xs (length xs - 1) ≡ None → ⊥
    none [] l e = omega (arith, l)
    none (x ∷ xs) l e =
        let there = slice_get-get_or (x ∷ xs) (length (x ∷ xs) - 1) x (omega arith) in
        cc

    by : (o : Option Decision) → slice_get node (length node - 1) ≡ o → IfSome o P → (d : Decision) × (node ≡ take allowed_depth node ++ d ∷ []) × P d
    by None e h = absurd (none node (omega (arith, one)) e)
    by (Some d) e h = (d, last_decision node allowed_depth d one e, h)

-- where nothing is allowed there are no legs
pub none_walk : {R : Type 0} (net : Net) (rows : Rows R) (used : TypeId → Leg → List R) (bids : List Bid) (node : List Decision) (number : ℕ) (best : BestWalk) → best.worth ≡ None → 0 < length best.legs.items
    → IsSomeAnd (slice_get bids number) (λ b. IsBestWalk net rows used bids node number b best) → ⊥
none_walk net rows used bids node number best none some is = by (slice_get bids number) is
  where
    by : (o : Option Bid) → IsSomeAnd o (λ b. IsBestWalk net rows used bids node number b best) → ⊥
    by None h = h
    by (Some b) h = let e = (h.walk some).worth in cc

if_both : {X : Type 0} (P Q : X → Type 0) (o : Option X) → IfSome o P → IfSome o Q → IfSome o (λ x. P x × Q x)
if_both P Q None p q = tt
if_both P Q (Some x) p q = (p, q)

-- legs that all decisions but the last allow, and on which the last one does not bear
pub still_beside : {R : Type 0} (cmp : R → R → Ordering) (net : Net) (rows : Rows R) (used : TypeId → Leg → List R) (bids : List Bid) (node : List Decision) (number allowed_depth : ℕ) (legs : List Leg) (listed : List R)
    → ((leg : Leg) → IsUsable net (kind_at bids number) leg → ListsRows cmp rows.is_row (rows.uses (kind_at bids number) leg) (used (kind_at bids number) leg))
    → allowed_depth + 1 ≡ length node → IfSome (slice_get node (length node - 1)) (λ last. last.bid ≡ number → ⊥) → AreLastRows cmp rows bids node listed
    → All (IsUsable net (kind_at bids number)) legs → All (KeepsOff cmp rows (kind_at bids number) listed) legs → IsStillFree (weights_within net rows used bids node number allowed_depth) legs
    → IsStillFree (leaf_weights net rows used bids node number [] (kind_at bids number)) legs
still_beside {R} cmp net rows used bids node number allowed_depth legs listed lists one other spared usable keeps still =
    let last = last_has (λ d. (d.bid ≡ number → ⊥) × ((row : R) → IsMissing cmp listed row → yes_uses rows bids row d ≡ 0)) node allowed_depth one
    (if_both (λ d. d.bid ≡ number → ⊥) (λ d. (row : R) → IsMissing cmp listed row → yes_uses rows bids row d ≡ 0) (slice_get node (length node - 1)) other spared) in
    let more = still_more cmp net rows used bids number (kind_at bids number) (take allowed_depth node) last.0 listed lists last.2.0 last.2.1 legs usable keeps still in
    subst (λ ds. IsStillFree (leaf_weights net rows used bids ds number [] (kind_at bids number)) legs) (sym last.1) more

-- all decisions allow the legs
pub still_all : {R : Type 0} (net : Net) (rows : Rows R) (used : TypeId → Leg → List R) (bids : List Bid) (node : List Decision) (number allowed_depth : ℕ) (legs : List Leg) → length node ≤ allowed_depth
    → IsStillFree (weights_within net rows used bids node number allowed_depth) legs → IsStillFree (leaf_weights net rows used bids node number [] (kind_at bids number)) legs
still_all net rows used bids node number allowed_depth legs all still = subst (λ ds. IsStillFree (leaf_weights net rows used bids ds number [] (kind_at bids number)) legs) (take_all allowed_depth node all) still

-- a walk of the bid at a position of the same instance
pub attains_at : (net : Net) (bids : List Bid) (net' : Net) (bids' : List Bid) (number : ℕ) (worth : Option ℤ) (legs : List Leg) (r : Bid) → net' ≡ net → bids' ≡ bids → Attains net' (get_or bids' number r) worth legs
    → (b : Bid) → slice_get bids number ≡ Some b → Attains net b worth legs
attains_at net bids net' bids' number worth legs r same_net same is b at =
    let there : get_or bids' number r ≡ b = ap (λ bs. get_or bs number r) same ∙ get_or_from_slice_get bids number b r at in
    subst (λ x. Attains net x worth legs) there (subst (λ n. Attains n (get_or bids' number r) worth legs) same_net is)

pub attains_there : (net : Net) (bids : List Bid) (net' : Net) (bids' : List Bid) (number : ℕ) (worth : Option ℤ) (legs : List Leg) (r : Bid) → IsProper net → net' ≡ net → bids' ≡ bids → number < length bids
    → Attains net' (get_or bids' number r) worth legs → All (IsUsable net (kind_at bids number)) legs
attains_there net bids net' bids' number worth legs r proper same_net same l is =
    let at = slice_get-get_or bids number r l in
    attains_usable net bids number worth legs proper (get_or bids number r) at (attains_at net bids net' bids' number worth legs r same_net same is (get_or bids number r) at)

-- the best of all walks of the bid at a position
pub free_at : {R : Type 0} (cmp : R → R → Ordering) (net : Net) (rows : Rows R) (used : TypeId → Leg → List R) (bids : List Bid) (number : ℕ) (bid : Bid) → number < length bids → bid ≡ get_or bids number bid → IsProper net
    → ((leg : Leg) → IsUsable net (kind_at bids number) leg → ListsRows cmp rows.is_row (rows.uses (kind_at bids number) leg) (used (kind_at bids number) leg))
    → (walks : BestOnWay) (free : BestWalk) → walks.kept.items ≡ free ∷ [] → walks.allowed_depth ≡ 0 → IsFree cmp net rows bid free → AreBestOf net rows used bids [] number walks
free_at cmp net rows used bids number bid l at proper lists walks free kept allowed_depth is =
    let there : slice_get bids number ≡ Some bid = slice_get-get_or bids number bid l ∙ ap Some (sym at) in
    subst (λ o. IsSomeAnd o (λ b. AreBestOnWay net rows used bids [] number b walks)) (sym there) (free_walks net rows used bids number bid cmp there proper lists walks free kept allowed_depth is)

-- the same of the bid at a position
module _ {R : Type 0} (net : Net) (rows : Rows R) (used : TypeId → Leg → List R) (bids : List Bid) (number : ℕ) (node : List Decision) (walks after : BestOnWay) (are : AreBestOf net rows used bids node number walks) where
  pub turned_of : (k : ℕ) → k ≤ length node → AreTurned k walks after → AreBestOf net rows used bids (take k node) number after
  turned_of k l t =
      some_and (λ b. AreBestOnWay net rows used bids node number b walks) (λ b. AreBestOnWay net rows used bids (take k node) number b after) (slice_get bids number)
      (λ b at h. turned_one net rows used bids number b node k walks after l t h) are

  pub brought_more_of : (best : BestWalk) → after.kept.items ≡ walks.kept.items ++ best ∷ [] → after.allowed_depth ≡ length node → best.depth ≡ length node
      → ((b : Bid) → slice_get bids number ≡ Some b → IsBestWorth (leaf_weights net rows used bids node number [] (kind_at bids number)) net b best.worth) → IfSome best.worth IsWorthSize
      → (0 < length best.legs.items → (b : Bid) → slice_get bids number ≡ Some b → Attains net b best.worth best.legs.items)
      → (0 < length best.legs.items → IsStillFree (leaf_weights net rows used bids node number [] (kind_at bids number)) best.legs.items) → AreBestOf net rows used bids node number after
  brought_more_of best kept allowed_depth depth is size walk still =
      some_and (λ b. AreBestOnWay net rows used bids node number b walks) (λ b. AreBestOnWay net rows used bids node number b after) (slice_get bids number)
      (λ b at h. brought_more net rows used bids number b node walks after best kept allowed_depth depth (is b at) size (λ some. walk some b at) still h) are

-- legs that all decisions allow make the last one the best
pub stands_best : {R : Type 0} (net : Net) (rows : Rows R) (used : TypeId → Leg → List R) (bids : List Bid) (node : List Decision) (number : ℕ) (best : BestWalk)
    → IsSomeAnd (slice_get bids number) (λ b. IsBestWalk net rows used bids node number b best) → IsStillFree (leaf_weights net rows used bids node number [] (kind_at bids number)) best.legs.items → 0 < length best.legs.items
    → (b : Bid) → slice_get bids number ≡ Some b → IsBestWorth (leaf_weights net rows used bids node number [] (kind_at bids number)) net b best.worth
stands_best net rows used bids node number best is still some b at =
    best_below net rows used bids number b node [] best (λ k d l. absurd (omega (arith, l))) (some_has (λ b. IsBestWalk net rows used bids node number b best) (slice_get bids number) b at is) still some
