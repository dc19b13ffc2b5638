-- A budget that suffices: no way from the root has more splits than there are pairs of a bid and a leg of its walks.
use Rattle.std.proofs.Common.{◌≡◌, ℕ, zero, suc, ◌+◌, ◌-◌, ◌*◌, ◌^◌, ◌≤◌, List, [], ◌∷◌, ◌++◌, map, length, sum_by, refl, sym, ap, ◌∙◌, subst, arith, inl, inr, Option, pow-suc}
use Rattle.std.specs.Prelude.{All, Contains, ◌⊎◌}
use Rattle.std.specs.declared.cmp.Ordering.{Ordering}
use Rattle.std.proofs.lemmas.List.{length-append, length-map}
use Rattle.std.proofs.lemmas.List.Sums.{sum_by-cons, sum_by-append}
use Rattle.std.proofs.lemmas.List.Elements.{All-nil, All-cons, All-append, All-push, All-contains}
use Rattle.optra_network.specs.Net.{Net, IsProper}
use Rattle.optra_bid.specs.declared.bids.Bid.{Bid}
use Rattle.optra_walk.specs.declared.Leg.{Leg}
use Rattle.optra_walk.specs.Choices.{revenue_of}
use Rattle.optra_walk.specs.Families.{Rows}
use Rattle.optra_node.specs.declared.Decision.{Decision}
use Rattle.optra_node.specs.declared.Item.{Item}
use Rattle.optra_node.specs.declared.Item.TheVariants.{Split, NoWalk, Forced, Priced}
use Rattle.optra_node.specs.Nodes.{DecidesOnce, DecideApart, IsUndecided}
use Rattle.optra_node.specs.Duals.{PriceList}
use Rattle.optra_node.specs.Trees.{decide, decide_not}
use Rattle.optra_node.proofs.LoadLemmas.{contains_cases, contains_head, contains_later, take_out, pairs_head, pairs_tail, all_head, all_tail}
use Rattle.optra_prices.proofs.RepairLemmas.{between}
use Rattle.optra_search.specs.Planner.{OpenNode, State, first_state, IsDeadTurn, IsPricedTurn, opened, IsTurn, Turns, Planned, IsPlainPlan}
use Rattle.optra_search.specs.Laws.{IsPair}
use Rattle.optra_search.proofs.SplitLemmas.{split_allowed, split_free, free_undecided}
use Rattle.optra_search.proofs.TurnLemmas.{dead_opens}
use Rattle.optra_search.proofs.FixedLemmas.{Differ, in_map}
use Rattle.optra_search.proofs.ResultLemmas.{result_valued}
use Rattle.optra_search.proofs.SoundLemmas.{IsSoundOpen, IsSound, first_sound, turn_sound}
use Rattle.optra_search.proofs.PlanLemmas.{closed, numbered}

-- the nodes of a whole tree of so many splits on each way
full : ℕ → ℕ
full zero = 1
full (suc n) = full n + full n + 1

full_is : (n : ℕ) → full n + 1 ≡ 2 ^ (n + 1)
unfolding full
full_is zero = refl
full_is (suc n) =
    let i = full_is n in
    let e : suc n + 1 ≡ suc (n + 1) = omega arith in
    let p : 2 ^ (suc n + 1) ≡ 2 ^ suc (n + 1) = ap (λ (k : ℕ). 2 ^ k) e in
    let q : 2 ^ suc (n + 1) ≡ 2 ^ (n + 1) * 2 = pow-suc 2 (n + 1) in
    omega arith

full_more : (n : ℕ) → full (suc n) ≡ full n + full n + 1
unfolding full
full_more n = refl

full_some : (n : ℕ) → 1 ≤ full n
unfolding full
full_some zero = omega arith
full_some (suc n) = omega arith

ones : {X : Type 0} (xs : List X) → sum_by (λ (x : X). 1) xs ≡ length xs
ones [] = refl
ones {X} (x ∷ xs) = let s = sum_by-cons (λ (x : X). 1) x xs in let i = ones xs in omega arith

-- elements that differ and are all among others are no more than those
no_more : {X : Type 0} (xs ys : List X) → Differ xs → ((x : X) → Contains xs x → Contains ys x) → length xs ≤ length ys
no_more [] ys d has = omega arith
no_more {X} (x ∷ xs) ys d has =
    let t = take_out (λ (x : X). 1) ys x (has x (contains_head x xs x refl)) in
    let i = no_more xs t.0 d.1 (λ z c. t.1.others z (λ e. d.0 (subst (Contains xs) (sym e) c)) (has z (contains_later x xs z c))) in
    let s = t.1.sum in
    let a = ones ys in
    let b = ones t.0 in
    omega arith

-- the pair that a decision decides
abbrev pair_of : Decision → ℕ × Leg
pair_of d = (d.bid, d.leg)

pairs_differ : (node : List Decision) → DecidesOnce node → Differ (map pair_of node)
pairs_differ [] once = tt
pairs_differ (d ∷ node) once = (
  (λ c.
      let t = in_map pair_of node (pair_of d) c in
      All-contains (DecideApart d) node t.0 (pairs_head DecideApart d node once) t.1 (ap (λ (p : ℕ × Leg). p.0) (sym t.2)) (ap (λ (p : ℕ × Leg). p.1) (sym t.2))),
  pairs_differ node (pairs_tail DecideApart d node once),
)

module _ {R : Type 0} (cmp : R → R → Ordering) (net : Net) (proper : IsProper net) (rows : Rows R) (bids : List Bid) (steps budget : ℕ) (pairs : List (ℕ × Leg))
    (whole : (pair : ℕ × Leg) → IsPair net bids pair → Contains pairs pair) where
  abbrev weight_of : OpenNode R → ℕ
  weight_of waiting = full (length pairs - length waiting.node)

  abbrev DecidesPairs : OpenNode R → Type 0
  DecidesPairs waiting = All (λ d. Contains pairs (pair_of d)) waiting.node

  -- the nodes taken, and those that may still come, are at most those of a whole tree
  record IsBudgeted (s : State R) : Type 0 where
    pub sum : s.count + sum_by weight_of s.open_nodes ≤ full (length pairs)
    pub waiting : All DecidesPairs s.open_nodes

  -- a split leg is a further pair
  one_more : (node : List Decision) → DecidesOnce node → All (λ d. Contains pairs (pair_of d)) node → (bid : ℕ) (leg : Leg) → IsUndecided node bid leg → Contains pairs (bid, leg) → length node + 1 ≤ length pairs
  one_more node once are bid leg fresh in_pairs =
      let n = no_more ((bid, leg) ∷ map pair_of node) pairs (new, pairs_differ node once) has in
      let l = length-map node pair_of in
      omega arith
    where
      new : Contains (map pair_of node) (bid, leg) → ⊥
      new c =
          let t = in_map pair_of node (bid, leg) c in
          All-contains (λ (d : Decision). d.bid ≡ bid → d.leg ≡ leg → ⊥) node t.0 fresh t.1 (ap (λ (p : ℕ × Leg). p.0) t.2) (ap (λ (p : ℕ × Leg). p.1) t.2)

      has : (p : ℕ × Leg) → Contains ((bid, leg) ∷ map pair_of node) p → Contains pairs p
      has p c = elim (contains_cases (bid, leg) (map pair_of node) p c) as (λ _. Contains pairs p) [
        | inl e ↦ subst (Contains pairs) e in_pairs
        | inr h ↦
            let t = in_map pair_of node p h in
            subst (Contains pairs) t.2 (All-contains (λ (d : Decision). Contains pairs (pair_of d)) node t.0 are t.1)
      ]

  -- what a node opens weighs less than the node
  Lighter : OpenNode R → Item R → PriceList R → Type 0
  Lighter first item prices = (sum_by weight_of (opened first.node item prices) + 1 ≤ weight_of first) × All DecidesPairs (opened first.node item prices)

  lighter : (first : OpenNode R) (old new : List (Option (List Leg))) (item : Item R) (prices : PriceList R) → IsSoundOpen cmp net rows bids first → DecidesPairs first
      → IsPricedTurn cmp net rows bids steps first old new item prices → Lighter first item prices
  unfolding Lighter
  lighter first old new (NoWalk bid) prices sound are turn = absurd turn.item_is
  lighter first old new (Forced row) prices sound are turn = absurd turn.item_is
  lighter first old new (Priced listed) prices sound are turn = (full_some (length pairs - length first.node), All-nil DecidesPairs)
  lighter first old new (Split bid leg) prices sound are turn =
      let r = turn.result in
      let v = result_valued cmp net rows bids first.node first.start steps (revenue_of net bids old) r turn.is_result in
      let here = split_allowed net rows bids first.node r.prices r.dual.replies v.replies bid leg turn.item_is.1 in
      let fresh = free_undecided net rows bids first.node bid leg (split_free net rows bids first.node r.dual.replies bid leg turn.item_is.1) here in
      let in_pairs : Contains pairs (bid, leg) = whole (bid, leg) (record { bid = here.bid; at = here.at; legs = here.legs; walk = here.allowed.walk; has = here.has }) in
      let room = one_more first.node sound.is_node.once are bid leg fresh in_pairs in
      let yes_child : OpenNode R = record { node = first.node ++ decide bid leg ∷ []; start = prices } in
      let no_child : OpenNode R = record { node = first.node ++ decide_not bid leg ∷ []; start = prices } in
      let a = length-append first.node (decide bid leg ∷ []) in
      let b = length-append first.node (decide_not bid leg ∷ []) in
      let s = sum_by-cons weight_of yes_child (no_child ∷ []) in
      let t = sum_by-cons weight_of no_child [] in
      let n : length pairs - length first.node ≡ suc (length pairs - length first.node - 1) = omega arith in
      let w : full (length pairs - length first.node) ≡ full (length pairs - length first.node - 1) + full (length pairs - length first.node - 1) + 1 = ap full n ∙ full_more (length pairs - length first.node - 1) in
      let y : full (length pairs - length yes_child.node) ≡ full (length pairs - length first.node - 1) = ap full (omega arith) in
      let z : full (length pairs - length no_child.node) ≡ full (length pairs - length first.node - 1) = ap full (omega arith) in (
        omega arith,
        All-cons DecidesPairs yes_child (no_child ∷ []) (All-push (λ (d : Decision). Contains pairs (pair_of d)) first.node (decide bid leg) are in_pairs)
            (All-cons DecidesPairs no_child [] (All-push (λ (d : Decision). Contains pairs (pair_of d)) first.node (decide_not bid leg) are in_pairs) (All-nil DecidesPairs)),
      )

  turn_budgeted : (before after : State R) → IsTurn cmp net rows bids steps budget before after → IsSound cmp net rows bids budget before → IsBudgeted before → IsBudgeted after
  unfolding Lighter
  turn_budgeted before after turn sound b =
      let l = by turn.becomes in
      let s = ap (sum_by weight_of) turn.opens in
      let t = sum_by-append weight_of (opened turn.first.node turn.item turn.prices) turn.rest in
      let u = ap (sum_by weight_of) turn.taken in
      let w = sum_by-cons weight_of turn.first turn.rest in
      let c = turn.count in
      let old = b.sum in
      let m = l.0 in
      record {
        sum = omega arith;
        waiting = subst (All DecidesPairs) (sym turn.opens) (All-append DecidesPairs (opened turn.first.node turn.item turn.prices) turn.rest l.1 (all_tail DecidesPairs turn.first turn.rest are));
      }
    where
      are : All DecidesPairs (turn.first ∷ turn.rest)
      are = subst (All DecidesPairs) turn.taken b.waiting

      by : IsDeadTurn cmp net rows bids turn.first.node before.incumbent after.incumbent turn.item
          ⊎ IsPricedTurn cmp net rows bids steps turn.first before.incumbent after.incumbent turn.item turn.prices → Lighter turn.first turn.item turn.prices
      by (inl d) =
          let none = dead_opens turn.first.node d.reason turn.item turn.prices d.item_is in
          let z = ap (sum_by weight_of) none in
          let f = full_some (length pairs - length turn.first.node) in
          (omega arith, subst (All DecidesPairs) (sym none) (All-nil DecidesPairs))
      by (inr p) =
          lighter turn.first before.incumbent after.incumbent turn.item turn.prices
          (all_head (IsSoundOpen cmp net rows bids) turn.first turn.rest (subst (All (IsSoundOpen cmp net rows bids)) turn.taken sound.waiting)) (all_head DecidesPairs turn.first turn.rest are) p

  turns_budgeted : (n : ℕ) (before after : State R) → Turns cmp net rows bids steps budget n before after → IsSound cmp net rows bids budget before → IsBudgeted before → IsBudgeted after
  turns_budgeted zero before after e sound b = subst IsBudgeted (sym e) b
  turns_budgeted (suc n) before after (next, turn, rest) sound b =
      turns_budgeted n next after rest (turn_sound cmp net proper rows bids steps budget before next turn sound) (turn_budgeted before next turn sound b)

  first_budgeted : IsBudgeted (first_state bids)
  first_budgeted = record {
    sum =
        let s = sum_by-cons weight_of (record { node = []; start = [] }) [] in
        let e : full (length pairs - 0) ≡ full (length pairs) = ap full (omega arith) in
        omega arith;
    waiting = All-cons DecidesPairs (record { node = []; start = [] }) [] (All-nil (λ (d : Decision). Contains pairs (pair_of d))) (All-nil DecidesPairs);
  }

  -- with such a budget, the bound is the revenue
  pub enough : (plan : Planned R) → 2 ^ (length pairs + 1) - 1 ≤ budget → IsPlainPlan cmp net rows bids steps budget plan → plan.bound ≡ plan.revenue
  enough plan much is = by is.over
    where
      b : IsBudgeted is.last
      b = turns_budgeted is.last.count (first_state bids) is.last is.turns (first_sound cmp net rows bids budget) first_budgeted

      optimal : is.last.open_nodes ≡ [] → plan.bound ≡ plan.revenue
      optimal none = between plan.bound plan.revenue (closed cmp net proper rows bids steps budget plan is none) (numbered cmp net proper rows bids steps budget plan is).within

      spent : budget ≤ is.last.count → (open_nodes : List (OpenNode R)) → is.last.open_nodes ≡ open_nodes → plan.bound ≡ plan.revenue
      spent l [] e = optimal e
      spent l (w ∷ ws) e =
          let s = b.sum in
          let c = ap (sum_by weight_of) e in
          let d = sum_by-cons weight_of w ws in
          let f = full_some (length pairs - length w.node) in
          let g = full_is (length pairs) in
          absurd (omega arith)

      by : (is.last.open_nodes ≡ []) ⊎ (budget ≤ is.last.count) → plan.bound ≡ plan.revenue
      by (inl none) = optimal none
      by (inr l) = spent l is.last.open_nodes refl
