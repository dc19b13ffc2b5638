-- What a search over marked arcs finds is the freest allowed walk.
use Rattle.std.proofs.Common.{◌≡◌, ℕ, ◌+◌, ◌<◌, Bool, true, false, not, cond, List, [], ◌∷◌, ◌++◌, map, length, get_or, Option, None, Some, IsSome, IsSomeAnd, slice_get, refl, sym, ap, ◌∙◌, subst, arith, inl, inr}
use Rattle.std.specs.Prelude.{All, Contains, ◌⊎◌, ◌↔◌, nat_lt, ℤ, pos, ◌-ℤ◌}
use Rattle.std.specs.Option.{option_map_or}
use Rattle.std.specs.Ordering.{is_gt}
use Rattle.std.proofs.lemmas.Int.{ints}
use Rattle.std.proofs.lemmas.Option.{slice_get_past}
use Rattle.std.proofs.lemmas.Bool.Decides.{nat_tests}
use Rattle.std.proofs.lemmas.List.{length-append}
use Rattle.std.proofs.lemmas.List.Sums.{sum_by-cons}
use Rattle.std.proofs.Math.ListN.{get_or-append}
use Rattle.std.proofs.Math.Seq.{get_or-append_seam}
use Rattle.std.proofs.lemmas.List.Elements.{All-head, All-tail, All-nil, All-cons, All-contains}
use Rattle.optra_network.specs.Net.{Net, IsProper}
use Rattle.optra_network.proofs.HeadwayLemmas.{below_types}
use Rattle.optra_bid.specs.declared.bids.Bid.{Bid}
use Rattle.optra_walk.specs.declared.Leg.{Leg}
use Rattle.optra_walk.specs.Families.{Rows, IsUsable}
use Rattle.optra_walk.specs.Orders.{walk_cmp}
use Rattle.optra_walk.specs.Values.{first_departure}
use Rattle.optra_walk.proofs.UsableLemmas.{walk_usable}
use Rattle.optra_dag.specs.Paths.{Graph, LeadsToEnd, IsPath, IsFirstBest, weight_of, to_of}
use Rattle.optra_graph.specs.Timed.{Timed, IsGraphOf, IsRoute, IsLegArc, IsStartArc, leg_of, leg_at, start_of, walk_of}
use Rattle.optra_node.specs.declared.Decision.{Decision}
use Rattle.optra_node.specs.Laws.{TestsTellAllowed}
use Rattle.optra_node.specs.Nodes.{kind_at, IsAllowed, IsFormedLeg}
use Rattle.optra_node.specs.Spans.{IsLegOk}
use Rattle.optra_node.specs.Duals.{leg_price}
use Rattle.optra_node.proofs.LoadLemmas.{contains_cases, contains-map}
use Rattle.optra_walk.specs.Shares.{start_value, leg_value}
use Rattle.optra_prices.specs.Arcs.{AreWeighed}
use Rattle.optra_prices.proofs.ArcLemmas.{path_allowed, allowed_path}
use Rattle.optra_prices.proofs.RepairLemmas.{some_is}
use Rattle.optra_search.specs.declared.freeing.ArcMark.{ArcMark}
use Rattle.optra_search.specs.Splits.{is_fixed, IsFree, free_count, HoldsOfNone, IsFirstOrNone, IsFreest, IsSettled, IsFreestLeg}
use Rattle.optra_search.proofs.FirstLemmas.{compare}
use Rattle.optra_search.specs.Marks.{no_mark, mark_at, allows_at, weight_at, IsMarkOf, AreMarked, IsFreestOrNone, IsFreeLegOrNone, IsBestWalkOrNone}

leg_there : (t : Timed) (k : ℕ) → IsSome (leg_of t k) → leg_of t k ≡ Some (leg_at t k)
leg_there t k h = grind (arith, h)

-- an arc of a leg has no departure of its own
pub no_start : (t : Timed) (k : ℕ) (leg : Leg) → leg_of t k ≡ Some leg → (start_of t k ≡ None) × (leg ≡ leg_at t k)
no_start t k leg e = by (nat_lt k (length t.minutes)) refl
  where
    by : (b : Bool) → nat_lt k (length t.minutes) ≡ b → (start_of t k ≡ None) × (leg ≡ leg_at t k)
    by true q = absurd (none (sym (ap (λ (b : Bool). cond b None (Some (leg_at t k))) q) ∙ e))
      where
        none : {x : Leg} → None ≡ Some x → ⊥
        none e = cc
    by false q = (slice_get_past t.minutes k (grind (arith, nat_tests)), sym (inside (sym (ap (λ (b : Bool). cond b None (Some (leg_at t k))) q) ∙ e)))
      where
        inside : {x y : Leg} → Some x ≡ Some y → x ≡ y
        inside e = cc

-- one more mark
pub one_mark : {R : Type 0} (net : Net) (rows : Rows R) (bids : List Bid) (node : List Decision) (number : ℕ) (t : Timed) (n : ℕ) (marks : List ArcMark) (mark : ArcMark)
    → AreMarked net rows bids node number t n marks → IsMarkOf net rows bids node number t n mark → AreMarked net rows bids node number t (n + 1) (marks ++ mark ∷ [])
one_mark net rows bids node number t n marks mark are is = record {
  count = let l = length-append marks (mark ∷ []) in let c = are.count in omega arith;
  each = λ k l. by k (compare k n) l;
}
  where
    by : (k : ℕ) → (k < n) ⊎ ((k ≡ n) ⊎ (n < k)) → k < n + 1 → IsMarkOf net rows bids node number t k (mark_at (marks ++ mark ∷ []) k)
    by k (inl l) m =
        let c = are.count in
        subst (IsMarkOf net rows bids node number t k) (sym (get_or-append marks (mark ∷ []) no_mark k (omega arith))) (are.each k l)
    by k (inr (inl e)) m =
        let c = are.count in
        let at : k ≡ length marks = omega arith in
        let last : mark_at (marks ++ mark ∷ []) k ≡ mark = ap (λ (j : ℕ). get_or (marks ++ mark ∷ []) j no_mark) at ∙ get_or-append_seam marks mark [] no_mark in
        subst (λ (m : ArcMark). IsMarkOf net rows bids node number t k m) (sym last) (subst (λ (j : ℕ). IsMarkOf net rows bids node number t j mark) (sym e) is)
    by k (inr (inr l)) m = absurd (omega arith)

-- the mark of an arc of a leg
pub leg_mark : {R : Type 0} (net : Net) (rows : Rows R) (bids : List Bid) (node : List Decision) (number : ℕ) (t : Timed) (k : ℕ) (leg : Leg) (allowed free : Bool) → leg_of t k ≡ Some leg
    → ((allowed ≡ true) ↔ IsLegOk net rows bids node number (kind_at bids number) leg) → free ≡ not (is_fixed node number leg) → IsMarkOf net rows bids node number t k (record { allowed = allowed; free = free })
leg_mark net rows bids node number t k leg allowed free e ok f = record {
  start_allowed = λ minute s. absurd (clash (sym (no_start t k leg e).0 ∙ s));
  start_free = λ minute s. absurd (clash (sym (no_start t k leg e).0 ∙ s));
  leg_allowed = λ other q. subst (λ (x : Leg). (allowed ≡ true) ↔ IsLegOk net rows bids node number (kind_at bids number) x) (some_is e q) ok;
  leg_free = λ other q. f ∙ ap (λ (x : Leg). not (is_fixed node number x)) (some_is e q);
}
  where
    clash : {minute : ℕ} → None ≡ Some minute → ⊥
    clash e = cc

pub some_there : {X : Type 0} (P : X → Type 0) (xs : List X) (k : ℕ) → IsSomeAnd (slice_get xs k) P → (x : X) × (slice_get xs k ≡ Some x) × P x
some_there P xs k h = by (slice_get xs k) refl h
  where
    by : (o : Option _) → slice_get xs k ≡ o → IsSomeAnd o P → (x : _) × (slice_get xs k ≡ Some x) × P x
    by None e h = absurd h
    by (Some x) e h = (x, e, h)

-- a path of allowed arcs is a route
pub path_route : (t : Timed) (allows : ℕ → Bool) (arcs : List ℕ) → IsPath t.dag allows arcs → IsRoute t arcs
path_route t allows arcs path = record { some = path.some; leads = leads 0 arcs path.leads }
  where
    leads : (n : ℕ) (arcs : List ℕ) → LeadsToEnd t.dag allows n arcs → LeadsToEnd t.dag (λ _. true) n arcs
    leads n [] h = h
    leads n (k ∷ arcs) h = (h.0, refl, h.2, leads (to_of t.dag k) arcs h.3)

-- what the answer of a search says of the path that it gives
pub best_of : (t : Timed) (dag : Graph) (marks : List ArcMark) (total : ℤ) (arcs : List ℕ) → dag ≡ t.dag → IsFirstBest dag (allows_at marks) (weight_at marks) total arcs
    → IsFirstBest t.dag (allows_at marks) (weight_at marks) total arcs
best_of t dag marks total arcs e best = subst (λ (g : Graph). IsFirstBest g (allows_at marks) (weight_at marks) total arcs) e best

pub none_of : (t : Timed) (dag : Graph) (marks : List ArcMark) → dag ≡ t.dag → ((arcs : List ℕ) → IsPath dag (allows_at marks) arcs → ⊥) → (arcs : List ℕ) → IsPath t.dag (allows_at marks) arcs → ⊥
none_of t dag marks e none = subst (λ (g : Graph). (arcs : List ℕ) → IsPath g (allows_at marks) arcs → ⊥) e none

module _ {R : Type 0} (net : Net) (proper : IsProper net) (rows : Rows R) (bids : List Bid) (number : ℕ) (bid : Bid) (at : slice_get bids number ≡ Some bid) (t : Timed) (is_graph : IsGraphOf net bid.path t) where
  -- each arc's leg is one of a walk, so it is formed
  pub arc_formed : (k : ℕ) (leg : Leg) → k < length t.dag.arcs → leg_of t k ≡ Some leg → IsFormedLeg net leg
  arc_formed k leg l e =
      let r = is_graph.trimmed k l in
      let walk = is_graph.sound r.0 r.1 in
      let h = has r.0 r.1 r.2 in
      let usable : IsUsable net bid.path.kind leg = All-contains (IsUsable net bid.path.kind) (walk_of t r.0) leg (walk_usable net proper bid (walk_of t r.0) walk) h in
      record { track = (below_types net leg.track bid.path.kind proper usable.may_use).2; depart = usable.depart; dwell = usable.dwell }
    where
      has : (arcs : List ℕ) → IsRoute t arcs → Contains arcs k → Contains (walk_of t arcs) leg
      has [] route c = absurd (omega (arith, c.1))
      has (j ∷ arcs) route c = by (contains_cases j arcs k c)
        where
          start : IsStartArc t (first_departure (walk_of t (j ∷ arcs))) j
          start = (is_graph.begins (j ∷ arcs) route).0

          clash : {x : Leg} → None ≡ Some x → ⊥
          clash e = cc

          by : (j ≡ k) ⊎ Contains arcs k → Contains (map (leg_at t) arcs) leg
          by (inl same) = absurd (clash (sym start.1 ∙ ap (leg_of t) same ∙ e))
          by (inr h) = subst (Contains (map (leg_at t) arcs)) (sym (no_start t k leg e).1) (contains-map (leg_at t) arcs k h)

  module _ (law : TestsTellAllowed net rows bids) (node : List Decision) (marks : List ArcMark) (are : AreMarked net rows bids node number t (length t.dag.arcs) marks) where
    kind_is : kind_at bids number ≡ bid.path.kind
    kind_is = ap (λ (o : Option Bid). option_map_or (λ b. b.path.kind) o (record { 0 = 0 })) at

    -- what the arcs would add at zero prices
    priced : ℕ → ℤ
    priced k = option_map_or (start_value bid) (start_of t k) (leg_value net bid (leg_at t k) -ℤ leg_price {R = R} rows [] bid.path.kind (leg_at t k))

    weighed : AreWeighed net rows bids node [] number bid t (allows_at marks) priced
    unfolding priced
    weighed = record {
      start_allowed = λ k minute l e. (are.each k l).start_allowed minute e;
      start_weight = λ k minute l e. ap (λ (o : Option ℕ). option_map_or (start_value bid) o (leg_value net bid (leg_at t k) -ℤ leg_price {R = R} rows [] bid.path.kind (leg_at t k))) e;
      leg_allowed = λ k leg l e. subst (λ kind. (allows_at marks k ≡ true) ↔ IsLegOk net rows bids node number kind leg) kind_is ((are.each k l).leg_allowed leg e);
      leg_weight = λ k leg l e.
          let n = no_start t k leg e in
          ap (λ (o : Option ℕ). option_map_or (start_value bid) o (leg_value net bid (leg_at t k) -ℤ leg_price {R = R} rows [] bid.path.kind (leg_at t k))) n.0
          ∙ ap (λ (l : Leg). leg_value net bid l -ℤ leg_price {R = R} rows [] bid.path.kind l) (sym n.1);
    }

    legs_free : (arcs : List ℕ) → All (IsLegArc t) arcs → All (λ k. k < length t.dag.arcs) arcs → weight_of (weight_at marks) arcs ≡ pos (free_count node number (map (leg_at t) arcs))
    legs_free [] legs within = refl
    legs_free (k ∷ arcs) legs within =
        let i = legs_free arcs (All-tail (IsLegArc t) k arcs legs) (All-tail (λ k. k < length t.dag.arcs) k arcs within) in
        let here = leg_there t k (All-head (IsLegArc t) k arcs legs).0 in
        let f = (are.each k (All-head (λ k. k < length t.dag.arcs) k arcs within)).leg_free (leg_at t k) here in
        let w : weight_at marks k ≡ pos (cond (not (is_fixed node number (leg_at t k))) 1 0) = ap (λ (b : Bool). pos (cond b 1 0)) f in
        let s = sum_by-cons (λ (leg : Leg). cond (not (is_fixed node number leg)) 1 0) (leg_at t k) (map (leg_at t) arcs) in
        omega (arith, ints)

    leads_within : (g : Graph) (allows : ℕ → Bool) (n : ℕ) (arcs : List ℕ) → LeadsToEnd g allows n arcs → All (λ k. k < length g.arcs) arcs
    leads_within g allows n [] h = All-nil (λ k. k < length g.arcs)
    leads_within g allows n (k ∷ arcs) h = All-cons (λ k. k < length g.arcs) k arcs h.0 (leads_within g allows (to_of g k) arcs h.3)

    -- a route weighs as many as its walk has free legs
    route_free : (arcs : List ℕ) → IsRoute t arcs → weight_of (weight_at marks) arcs ≡ pos (free_count node number (walk_of t arcs))
    route_free [] route = absurd (route.some refl)
    route_free (k ∷ arcs) route =
        let begins = is_graph.begins (k ∷ arcs) route in
        let within = leads_within t.dag (λ _. true) 0 (k ∷ arcs) route.leads in
        let f = (are.each k (All-head (λ k. k < length t.dag.arcs) k arcs within)).start_free (first_departure (walk_of t (k ∷ arcs))) begins.0.0 in
        let w : weight_at marks k ≡ pos 0 = ap (λ (b : Bool). pos (cond b 1 0)) f in
        let i = legs_free arcs begins.1 (All-tail (λ k. k < length t.dag.arcs) k arcs within) in
        omega (arith, ints)

    -- the first best path is the freest walk
    pub best_freest : (arcs : List ℕ) (total : ℤ) → IsFirstBest t.dag (allows_at marks) (weight_at marks) total arcs → IsFreest net rows bids node number bid (walk_of t arcs)
    best_freest arcs total best =
        let route = path_route t (allows_at marks) arcs best.path in
        let own = sym best.sum ∙ route_free arcs route in
        record {
          allowed = path_allowed net proper rows bids law node [] number bid t is_graph (allows_at marks) priced weighed arcs best.path;
          most = λ other allowed.
              let p = allowed_path net proper rows bids law node [] number bid t is_graph (allows_at marks) priced weighed other allowed in
              let m = best.greatest p.0 p.1 in
              let s = route_free p.0 p.2 in
              let e = ap (free_count node number) p.3 in
              omega (arith, ints);
          first = λ other allowed tie.
              let p = allowed_path net proper rows bids law node [] number bid t is_graph (allows_at marks) priced weighed other allowed in
              let same : weight_of (weight_at marks) p.0 ≡ total = route_free p.0 p.2 ∙ ap (λ (legs : List Leg). pos (free_count node number legs)) p.3 ∙ ap pos tie ∙ sym own in
              let first = best.first p.0 p.1 same in
              let order = is_graph.order arcs p.0 route p.2 ∙ ap (walk_cmp (walk_of t arcs)) p.3 in
              sym (ap is_gt order) ∙ first;
        }

    -- without a path of allowed arcs, no walk is allowed
    pub none_freest : ((arcs : List ℕ) → IsPath t.dag (allows_at marks) arcs → ⊥) → (legs : List Leg) → IsAllowed net rows bids node number bid legs → ⊥
    none_freest none legs allowed =
        let p = allowed_path net proper rows bids law node [] number bid t is_graph (allows_at marks) priced weighed legs allowed in
        none p.0 p.1

-- what is true of the element that is there
pub some_back : {X : Type 0} (P : X → Type 0) (o : Option X) (x : X) → o ≡ Some x → P x → IsSomeAnd o P
some_back P o x e h = subst (λ (p : Option _). IsSomeAnd p P) (sym e) h

module _ {R : Type 0} (net : Net) (proper : IsProper net) (rows : Rows R) (bids : List Bid) (number : ℕ) (t : Timed) (there : IsSomeAnd (slice_get bids number) (λ b. IsGraphOf net b.path t)) (node : List Decision) where
  graph_bid : (bid : Bid) × (slice_get bids number ≡ Some bid) × IsGraphOf net bid.path t
  graph_bid = some_there (λ (b : Bid). IsGraphOf net b.path t) bids number there

  module _ (law : TestsTellAllowed net rows bids) (marks : List ArcMark) (are : AreMarked net rows bids node number t (length t.dag.arcs) marks) where
    -- what the first best path means
    pub finds_freest : (walk : Option (List Leg)) → IsBestWalkOrNone t marks walk → IsSomeAnd (slice_get bids number) (λ b. IsFreestOrNone net rows bids node number b walk)
    finds_freest None none =
        let b = graph_bid in
        some_back (λ (b : Bid). IsFreestOrNone net rows bids node number b None) (slice_get bids number) b.0 b.1 (none_freest net proper rows bids number b.0 b.1 t b.2 law node marks are none)
    finds_freest (Some legs) (arcs, total, best, e) =
        let b = graph_bid in
        some_back (λ (b : Bid). IsFreestOrNone net rows bids node number b (Some legs)) (slice_get bids number) b.0 b.1
        (subst (IsFreest net rows bids node number b.0) (sym e) (best_freest net proper rows bids number b.0 b.1 t b.2 law node marks are arcs total best))

-- where no walk is allowed, the bid is settled; where each leg of the freest walk is fixed, it is too
pub settled_none : {R : Type 0} (net : Net) (rows : Rows R) (bids : List Bid) (node : List Decision) (number : ℕ) → IsSomeAnd (slice_get bids number) (λ b. IsFreestOrNone net rows bids node number b None)
    → IsSomeAnd (slice_get bids number) (λ b. IsFreeLegOrNone net rows bids node number b None)
settled_none net rows bids node number h = by (slice_get bids number) h
  where
    by : (o : Option Bid) → IsSomeAnd o (λ b. IsFreestOrNone net rows bids node number b None) → IsSomeAnd o (λ b. IsFreeLegOrNone net rows bids node number b None)
    by None h = h
    by (Some b) h = λ legs allowed. absurd (h legs allowed)

abbrev counts_free : List Decision → ℕ → Leg → ℕ
counts_free node number leg = cond (not (is_fixed node number leg)) 1 0

none_free : (node : List Decision) (number : ℕ) (legs : List Leg) → free_count node number legs ≡ 0 → HoldsOfNone (IsFree node number) legs
none_free node number [] e = All-nil (λ leg. IsFree node number leg → ⊥)
none_free node number (leg ∷ legs) e =
    let s = sum_by-cons (λ (leg : Leg). cond (not (is_fixed node number leg)) 1 0) leg legs in
    All-cons (λ leg. IsFree node number leg → ⊥) leg legs
    (λ f. let c : counts_free node number leg ≡ 1 = ap (λ (b : Bool). cond {A = ℕ} (not b) 1 0) f in absurd (omega (arith, c)))
    (none_free node number legs (omega arith))

free_none : (node : List Decision) (number : ℕ) (legs : List Leg) → HoldsOfNone (IsFree node number) legs → free_count node number legs ≡ 0
free_none node number [] h = refl
free_none node number (leg ∷ legs) h =
    let s = sum_by-cons (λ (leg : Leg). cond (not (is_fixed node number leg)) 1 0) leg legs in
    let i = free_none node number legs (All-tail (λ leg. IsFree node number leg → ⊥) leg legs h) in
    let f : counts_free node number leg ≡ 0 = by (is_fixed node number leg) refl in
    omega arith
  where
    by : (b : Bool) → is_fixed node number leg ≡ b → counts_free node number leg ≡ 0
    by true e = ap (λ (b : Bool). cond {A = ℕ} (not b) 1 0) e
    by false e = absurd (All-head (λ leg. IsFree node number leg → ⊥) leg legs h e)

-- what the first free leg of the freest walk means
pub free_leg_of : {R : Type 0} (net : Net) (rows : Rows R) (bids : List Bid) (node : List Decision) (number : ℕ) (legs : List Leg) (leg : Option Leg)
    → IsSomeAnd (slice_get bids number) (λ b. IsFreestOrNone net rows bids node number b (Some legs)) → IsFirstOrNone (IsFree node number) legs leg
    → IsSomeAnd (slice_get bids number) (λ b. IsFreeLegOrNone net rows bids node number b leg)
free_leg_of net rows bids node number legs leg h first = by (slice_get bids number) leg h first
  where
    by : (o : Option Bid) (leg : Option Leg) → IsSomeAnd o (λ b. IsFreestOrNone net rows bids node number b (Some legs)) → IsFirstOrNone (IsFree node number) legs leg → IsSomeAnd o (λ b. IsFreeLegOrNone net rows bids node number b leg)
    by None leg h first = h
    by (Some b) (Some leg) h first = (legs, h, first)
    by (Some b) None h first = λ other allowed.
        let z = free_none node number legs first in
        let m = h.most other allowed in
        none_free node number other (omega arith)

-- the leg of the bid that comes after bids that are settled
pub first_bid_leg : {R : Type 0} (net : Net) (rows : Rows R) (bids : List Bid) (node : List Decision) (number : ℕ) (leg : Leg)
    → ((n : ℕ) (b : Bid) → n < number → slice_get bids n ≡ Some b → IsSettled net rows bids node n b)
    → IsSomeAnd (slice_get bids number) (λ b. IsFreeLegOrNone net rows bids node number b (Some leg)) → IsFreestLeg net rows bids node number leg
first_bid_leg net rows bids node number leg before h =
    let b = some_there (λ (b : Bid). IsFreeLegOrNone net rows bids node number b (Some leg)) bids number h in
    record { bid = b.0; at = b.1; legs = b.2.0; freest = b.2.1; is = b.2.2; earlier = before }

-- one more bid is settled
pub one_settled : {R : Type 0} (net : Net) (rows : Rows R) (bids : List Bid) (node : List Decision) (number : ℕ)
    → ((n : ℕ) (b : Bid) → n < number → slice_get bids n ≡ Some b → IsSettled net rows bids node n b)
    → IsSomeAnd (slice_get bids number) (λ b. IsFreeLegOrNone net rows bids node number b None)
    → (n : ℕ) (b : Bid) → n < number + 1 → slice_get bids n ≡ Some b → IsSettled net rows bids node n b
one_settled net rows bids node number before h n b l at = by (compare n number)
  where
    by : (n < number) ⊎ ((n ≡ number) ⊎ (number < n)) → IsSettled net rows bids node n b
    by (inl m) = before n b m at
    by (inr (inr m)) = absurd (omega arith)
    by (inr (inl e)) =
        let c = some_there (λ (b : Bid). IsFreeLegOrNone net rows bids node number b None) bids number h in
        let same : c.0 ≡ b = some_is c.1 (subst (λ (m : ℕ). slice_get bids m ≡ Some b) e at) in
        subst (λ (m : ℕ). IsSettled net rows bids node m b) (sym e) (subst (λ (x : Bid). IsSettled net rows bids node number x) same c.2)
