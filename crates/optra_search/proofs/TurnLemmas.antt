-- A turn of a state leads to one state, and there is one plan.
use Rattle.std.proofs.Common.{◌≡◌, ℕ, zero, suc, ◌≤◌, List, [], ◌∷◌, ◌++◌, map, Option, None, Some, refl, sym, ap, ◌∙◌, subst, arith, inl, inr}
use Rattle.std.specs.Prelude.{◌⊎◌}
use Rattle.std.specs.Prelude.{ℤ, ◌≤ℤ◌, ◌<ℤ◌}
use Rattle.std.specs.declared.cmp.Ordering.{Ordering}
use Rattle.std.specs.Cmp.{IsTotalOrder}
use Rattle.std.proofs.lemmas.Int.{ints}
use Rattle.optra_network.specs.Net.{Net}
use Rattle.optra_bid.specs.declared.bids.Bid.{Bid}
use Rattle.optra_walk.specs.declared.Leg.{Leg}
use Rattle.optra_walk.specs.Choices.{revenue_of}
use Rattle.optra_walk.specs.Families.{Rows, TellsApart}
use Rattle.optra_node.specs.declared.Decision.{Decision}
use Rattle.optra_node.specs.declared.Item.{Item}
use Rattle.optra_node.specs.declared.Item.TheVariants.{Split, NoWalk, Forced, Priced}
use Rattle.optra_node.specs.Duals.{PriceList}
use Rattle.optra_node.specs.Certificates.{IsGreatestBound}
use Rattle.optra_node.proofs.UniqueLemmas.{bound_unique}
use Rattle.optra_prices.specs.declared.Dead.{Dead}
use Rattle.optra_prices.specs.declared.Dead.TheVariants.{Forced as DeadForced, NoWalk as DeadNoWalk}
use Rattle.optra_prices.specs.declared.Priced.{Priced as PathResult}
use Rattle.optra_prices.specs.Deads.{IsDeadAs}
use Rattle.optra_prices.specs.Laws.{OnePathResult}
use Rattle.optra_prices.specs.Repairs.{IsRepair}
use Rattle.optra_prices.proofs.RepairLemmas.{tied, repair_unique}
use Rattle.optra_search.specs.Planner.{OpenNode, State, first_state, dead_item, IsBetter, IsPricedItem, IsDeadTurn, IsPricedTurn, opened, IsTurn, Turns, IsOver, priced_open, Planned, IsPlainPlan}
use Rattle.optra_search.proofs.SplitLemmas.{split_unique}

better_unique : (net : Net) (bids : List Bid) (old new a b : List (Option (List Leg))) → IsBetter net bids old new a → IsBetter net bids old new b → a ≡ b
better_unique net bids old new a b (inl p) (inl q) = p.1 ∙ sym q.1
better_unique net bids old new a b (inl p) (inr q) = absurd (no (revenue_of net bids old) (revenue_of net bids new) p.0 q.0)
  where
    no : (m n : ℤ) → m <ℤ n → n ≤ℤ m → ⊥
    no m n l h = omega (arith, ints)
better_unique net bids old new a b (inr p) (inl q) = absurd (no (revenue_of net bids old) (revenue_of net bids new) q.0 p.0)
  where
    no : (m n : ℤ) → m <ℤ n → n ≤ℤ m → ⊥
    no m n l h = omega (arith, ints)
better_unique net bids old new a b (inr p) (inr q) = p.1 ∙ sym q.1

module _ {R : Type 0} (cmp : R → R → Ordering) (total : IsTotalOrder cmp) (apart : TellsApart cmp) (net : Net) (rows : Rows R) (bids : List Bid) where
  -- a node is dead for one reason, or not
  pub dead_unique : (node : List Decision) (a b : Option (Dead R)) → IsDeadAs cmp net rows bids node a → IsDeadAs cmp net rows bids node b → a ≡ b
  dead_unique node None None p q = refl
  dead_unique node None (Some (DeadForced row)) p q = absurd (p.0 row q.overfull)
  dead_unique node None (Some (DeadNoWalk bid)) p q = absurd (p.1 (bid, q.1.bid, q.1.at, q.1.stuck))
  dead_unique node (Some (DeadForced row)) None p q = absurd (q.0 row p.overfull)
  dead_unique node (Some (DeadForced row)) (Some (DeadForced other)) p q =
      ap (λ (r : R). Some (DeadForced r)) (apart row other (tied total row other (p.least other q.overfull) (q.least row p.overfull)))
  dead_unique node (Some (DeadForced row)) (Some (DeadNoWalk bid)) p q = absurd (q.0 row p.overfull)
  dead_unique node (Some (DeadNoWalk bid)) None p q = absurd (q.1 (bid, p.1.bid, p.1.at, p.1.stuck))
  dead_unique node (Some (DeadNoWalk bid)) (Some (DeadForced row)) p q = absurd (p.0 row q.overfull)
  dead_unique node (Some (DeadNoWalk bid)) (Some (DeadNoWalk other)) p q =
      let e : bid ≡ other = same (p.1.first other q.1.bid q.1.at q.1.stuck) (q.1.first bid p.1.bid p.1.at p.1.stuck) in
      ap (λ (n : ℕ). Some (DeadNoWalk n)) e
    where
      same : {m n : ℕ} → m ≤ n → n ≤ m → m ≡ n
      same l l' = omega arith

priced_item_unique : {R : Type 0} (net : Net) (rows : Rows R) (bids : List Bid) (node : List Decision) (result : PathResult R) (revenue : ℤ) (a b : Item R)
    → IsPricedItem net rows bids node result revenue a → IsPricedItem net rows bids node result revenue b → a ≡ b
priced_item_unique net rows bids node result revenue (Priced a) (Priced b) p q = ap Priced (p.1 ∙ sym q.1)
priced_item_unique net rows bids node result revenue (Priced a) (Split bid leg) p q = let l = p.0 in let h = q.0 in absurd (omega (arith, ints))
priced_item_unique net rows bids node result revenue (Priced a) (NoWalk bid) p q = absurd q
priced_item_unique net rows bids node result revenue (Priced a) (Forced row) p q = absurd q
priced_item_unique net rows bids node result revenue (Split bid leg) (Priced b) p q = let l = p.0 in let h = q.0 in absurd (omega (arith, ints))
priced_item_unique net rows bids node result revenue (Split bid leg) (Split bid' leg') p q =
    let s = split_unique net rows bids node result.dual.replies bid bid' leg leg' p.1 q.1 in
    λ i. Split (s.0 i) (s.1 i)
priced_item_unique net rows bids node result revenue (Split bid leg) (NoWalk bid') p q = absurd q
priced_item_unique net rows bids node result revenue (Split bid leg) (Forced row) p q = absurd q
priced_item_unique net rows bids node result revenue (NoWalk bid) b p q = absurd p
priced_item_unique net rows bids node result revenue (Forced row) b p q = absurd p

-- a dead node opens none
pub dead_opens : {R : Type 0} (node : List Decision) (reason : Dead R) (item : Item R) (prices : PriceList R) → item ≡ dead_item reason → opened node item prices ≡ []
dead_opens node (DeadForced row) item prices e = ap (λ (i : Item _). opened node i prices) e
dead_opens node (DeadNoWalk bid) item prices e = ap (λ (i : Item _). opened node i prices) e

module _ {R : Type 0} (cmp : R → R → Ordering) (total : IsTotalOrder cmp) (apart : TellsApart cmp) (net : Net) (rows : Rows R) (bids : List Bid) (one : OnePathResult cmp net rows bids) (steps : ℕ) where
  -- what a turn makes of a node
  abbrev Becomes : OpenNode R → List (Option (List Leg)) → List (Option (List Leg)) → Item R → PriceList R → Type 0
  Becomes first old new item prices =
      IsDeadTurn cmp net rows bids first.node old new item ⊎ IsPricedTurn cmp net rows bids steps first old new item prices

  becomes_unique : (first : OpenNode R) (old new new' : List (Option (List Leg))) (item item' : Item R) (prices prices' : PriceList R)
      → Becomes first old new item prices → Becomes first old new' item' prices'
      → (new ≡ new') × (item ≡ item') × (opened first.node item prices ≡ opened first.node item' prices')
  becomes_unique first old new new' item item' prices prices' (inl p) (inl q) =
      let e : p.reason ≡ q.reason = inside (dead_unique cmp total apart net rows bids first.node (Some p.reason) (Some q.reason) p.dead q.dead) in
      (p.stays ∙ sym q.stays, p.item_is ∙ ap dead_item e ∙ sym q.item_is, dead_opens first.node p.reason item prices p.item_is ∙ sym (dead_opens first.node q.reason item' prices' q.item_is))
    where
      inside : {x y : Dead R} → Some x ≡ Some y → x ≡ y
      inside e = cc
  becomes_unique first old new new' item item' prices prices' (inl p) (inr q) = absurd (no (dead_unique cmp total apart net rows bids first.node (Some p.reason) None p.dead q.lives))
    where
      no : {x : Dead R} → Some x ≡ None → ⊥
      no e = cc
  becomes_unique first old new new' item item' prices prices' (inr p) (inl q) = absurd (no (dead_unique cmp total apart net rows bids first.node (Some q.reason) None q.dead p.lives))
    where
      no : {x : Dead R} → Some x ≡ None → ⊥
      no e = cc
  becomes_unique first old new new' item item' prices prices' (inr p) (inr q) =
      let r : q.result ≡ p.result = one first.node first.start steps (revenue_of net bids old) q.result p.result q.is_result p.is_result in
      let repaired' : IsRepair net rows bids first.node p.result.dual q.repaired = subst (λ (result : PathResult R). IsRepair net rows bids first.node result.dual q.repaired) r q.is_repaired in
      let c : q.repaired ≡ p.repaired = repair_unique net rows bids first.node p.result.dual q.repaired p.repaired repaired' p.is_repaired in
      let better' : IsBetter net bids old p.repaired new' = subst (λ (choice : List (Option (List Leg))). IsBetter net bids old choice new') c q.better in
      let n : new' ≡ new = better_unique net bids old p.repaired new' new better' p.better in
      let is' : IsPricedItem net rows bids first.node p.result (revenue_of net bids new) item' =
      subst (λ (choice : List (Option (List Leg))). IsPricedItem net rows bids first.node p.result (revenue_of net bids choice) item') n
      (subst (λ (result : PathResult R). IsPricedItem net rows bids first.node result (revenue_of net bids new') item') r q.item_is) in
      let i : item ≡ item' = priced_item_unique net rows bids first.node p.result (revenue_of net bids new) item item' p.item_is is' in
      let s : prices ≡ prices' = p.prices_are ∙ ap (λ (result : PathResult R). result.prices) (sym r) ∙ sym q.prices_are in
      (sym n, i, λ t. opened first.node (i t) (s t))

  -- a turn of a state leads to one state
  pub turn_unique : (budget : ℕ) (before a b : State R) → IsTurn cmp net rows bids steps budget before a → IsTurn cmp net rows bids steps budget before b → a ≡ b
  turn_unique budget before a b p q =
      let f : q.first ≡ p.first = heads (sym q.taken ∙ p.taken) in
      let r : q.rest ≡ p.rest = tails (sym q.taken ∙ p.taken) in
      let becomes' : Becomes p.first before.incumbent b.incumbent q.item q.prices = subst (λ (first : OpenNode R). Becomes first before.incumbent b.incumbent q.item q.prices) f q.becomes in
      let u = becomes_unique p.first before.incumbent a.incumbent b.incumbent p.item q.item p.prices q.prices p.becomes becomes' in
      let o : a.open_nodes ≡ b.open_nodes =
      p.opens ∙ ap (λ (nodes : List (OpenNode R)). nodes ++ p.rest) u.2 ∙ (λ t. opened (sym f t).node q.item q.prices ++ sym r t) ∙ sym q.opens in
      let i : a.items ≡ b.items = p.items ∙ ap (λ (item : Item R). before.items ++ item ∷ []) u.1 ∙ sym q.items in
      let n : a.count ≡ b.count = p.count ∙ sym q.count in
      λ t. record { open_nodes = o t; items = i t; incumbent = u.0 t; count = n t }
    where
      heads : {x y : OpenNode R} {xs ys : List (OpenNode R)} → x ∷ xs ≡ y ∷ ys → x ≡ y
      heads e = cc

      tails : {x y : OpenNode R} {xs ys : List (OpenNode R)} → x ∷ xs ≡ y ∷ ys → xs ≡ ys
      tails e = cc

  not_over : (budget : ℕ) (before next : State R) → IsTurn cmp net rows bids steps budget before next → IsOver budget before → ⊥
  not_over budget before next turn (inl e) = no (sym turn.taken ∙ e)
    where
      no : {x : OpenNode R} {xs : List (OpenNode R)} → x ∷ xs ≡ [] → ⊥
      no e = cc
  not_over budget before next turn (inr l) = let b = turn.below in omega arith

  -- turns lead to one state in which it is over
  turns_unique : (budget m n : ℕ) (before a b : State R) → Turns cmp net rows bids steps budget m before a → Turns cmp net rows bids steps budget n before b
      → IsOver budget a → IsOver budget b → a ≡ b
  turns_unique budget zero zero before a b p q over over' = p ∙ sym q
  turns_unique budget zero (suc n) before a b p (next, turn, q) over over' = absurd (not_over budget before next turn (subst (IsOver budget) p over))
  turns_unique budget (suc m) zero before a b (next, turn, p) q over over' = absurd (not_over budget before next turn (subst (IsOver budget) q over'))
  turns_unique budget (suc m) (suc n) before a b (next, turn, p) (next', turn', q) over over' =
      let e : next' ≡ next = turn_unique budget before next' next turn' turn in
      turns_unique budget m n next a b p (subst (λ (s : State R). Turns cmp net rows bids steps budget n s b) e q) over over'

  -- there is at most one plan
  pub plan_unique : (budget : ℕ) (a b : Planned R) → IsPlainPlan cmp net rows bids steps budget a → IsPlainPlan cmp net rows bids steps budget b → a ≡ b
  plan_unique budget a b p q =
      let e : p.last ≡ q.last = turns_unique budget p.last.count q.last.count (first_state bids) p.last q.last p.turns q.turns p.over q.over in
      let c : a.choice ≡ b.choice = p.choice ∙ ap (λ (s : State R). s.incumbent) e ∙ sym q.choice in
      let r : a.revenue ≡ b.revenue = p.revenue ∙ ap (λ (s : State R). revenue_of net bids s.incumbent) e ∙ sym q.revenue in
      let n : a.nodes ≡ b.nodes = p.nodes ∙ ap (λ (s : State R). s.count) e ∙ sym q.nodes in
      let t : a.tree ≡ b.tree = p.tree ∙ ap (λ (s : State R). s.items ++ map priced_open s.open_nodes) e ∙ sym q.tree in
      let d : a.bound ≡ b.bound = bound_unique net rows bids a.tree a.bound b.bound p.bound (subst (λ (tree : List (Item R)). IsGreatestBound net rows bids tree b.bound) (sym t) q.bound) in
      λ i. record { choice = c i; revenue = r i; bound = d i; nodes = n i; tree = t i }
