-- The plain planner: branching over decisions, one node at a time, until no node is open or the budget is spent.
use Rattle.std.specs.Prelude.{◌≡◌, ◌⊎◌, ℕ, zero, suc, ◌+◌, ◌<◌, ◌≤◌, List, [], ◌∷◌, ◌++◌, map, Option, None, Some}
use Rattle.std.specs.Prelude.{ℤ, ◌≤ℤ◌, ◌<ℤ◌}
use Rattle.std.specs.declared.cmp.Ordering.{Ordering}
use Rattle.optra_network.specs.Net.{Net}
use Rattle.optra_bid.specs.declared.bids.Bid.{Bid}
use Rattle.optra_walk.specs.declared.Leg.{Leg}
use Rattle.optra_walk.specs.Choices.{revenue_of}
use Rattle.optra_walk.specs.Families.{Rows}
use Rattle.optra_node.specs.declared.Decision.{Decision}
use Rattle.optra_node.specs.declared.Item.{Item}
use Rattle.optra_node.specs.declared.Item.TheVariants.{Split, NoWalk, Forced, Priced}
use Rattle.optra_node.specs.Duals.{PriceList, whole_cents}
use Rattle.optra_node.specs.Trees.{children}
use Rattle.optra_node.specs.Certificates.{IsGreatestBound}
use Rattle.optra_prices.specs.declared.Dead.{Dead}
use Rattle.optra_prices.specs.declared.Dead.TheVariants.{Forced as DeadForced, NoWalk as DeadNoWalk}
use Rattle.optra_prices.specs.declared.Priced.{Priced as PathResult}
use Rattle.optra_prices.specs.Deads.{IsDeadAs}
use Rattle.optra_prices.specs.Paths.{IsPathResult}
use Rattle.optra_prices.specs.Repairs.{IsRepair, empty_choice}
use Rattle.optra_search.specs.Splits.{IsSplitLeg}

-- a node that is still to be taken, with the prices at which its price path starts
pub record OpenNode (R : Type 0) : Type 0 where
  pub node : List Decision
  pub start : PriceList R

-- the open nodes, the items so far, the best choice so far, and how many nodes were taken
pub record State (R : Type 0) : Type 0 where
  pub open_nodes : List (OpenNode R)
  pub items : List (Item R)
  pub incumbent : List (Option (List Leg))
  pub count : ℕ

-- at first the node without decisions is open at zero prices, and no bid is served
abbrev pub first_state : {R : Type 0} → List Bid → State R
first_state bids = record { open_nodes = record { node = []; start = [] } ∷ []; items = []; incumbent = empty_choice bids; count = 0 }

-- a leaf that tells why its node is dead
abbrev pub dead_item : {R : Type 0} → Dead R → Item R
dead_item (DeadForced row) = Forced row
dead_item (DeadNoWalk bid) = NoWalk bid

-- the new choice where it earns strictly more, and else the old one
abbrev pub IsBetter : Net → List Bid → List (Option (List Leg)) → List (Option (List Leg)) → List (Option (List Leg)) → Type 0
IsBetter net bids old new best =
    ((revenue_of net bids old <ℤ revenue_of net bids new) × (best ≡ new)) ⊎ ((revenue_of net bids new ≤ℤ revenue_of net bids old) × (best ≡ old))

-- the item of a node at the result of its price path: priced where the dual value in whole cents, rounded down, is at
-- most the incumbent's revenue, and else split
abbrev pub IsPricedItem : {R : Type 0} → Net → Rows R → List Bid → List Decision → PathResult R → ℤ → Item R → Type 0
IsPricedItem net rows bids node result revenue (Priced prices) = (whole_cents result.dual.value ≤ℤ revenue) × (prices ≡ result.prices)
IsPricedItem net rows bids node result revenue (Split bid leg) = (revenue <ℤ whole_cents result.dual.value) × IsSplitLeg net rows bids node result.dual.replies bid leg
IsPricedItem net rows bids node result revenue (NoWalk bid) = ⊥
IsPricedItem net rows bids node result revenue (Forced row) = ⊥

-- a dead node becomes a leaf, and the incumbent stays
pub record IsDeadTurn {R : Type 0} (cmp : R → R → Ordering) (net : Net) (rows : Rows R) (bids : List Bid) (node : List Decision) (old new : List (Option (List Leg))) (item : Item R) : Type 0 where
  pub reason : Dead R
  pub dead : IsDeadAs cmp net rows bids node (Some reason)
  pub item_is : item ≡ dead_item reason
  pub stays : new ≡ old

-- else the price path runs from the start prices with the incumbent's revenue, repair may better the incumbent, and
-- the node becomes an item at the result
pub record IsPricedTurn {R : Type 0} (cmp : R → R → Ordering) (net : Net) (rows : Rows R) (bids : List Bid) (steps : ℕ) (first : OpenNode R) (old new : List (Option (List Leg))) (item : Item R) (prices : PriceList R) : Type 0 where
  pub lives : IsDeadAs cmp net rows bids first.node None
  pub result : PathResult R
  pub is_result : IsPathResult cmp net rows bids first.node first.start steps (revenue_of net bids old) result
  pub repaired : List (Option (List Leg))
  pub is_repaired : IsRepair net rows bids first.node result.dual repaired
  pub better : IsBetter net bids old repaired new
  pub item_is : IsPricedItem net rows bids first.node result (revenue_of net bids new) item
  pub prices_are : prices ≡ result.prices

-- the nodes that an item opens, each to start at the prices
abbrev pub opened : {R : Type 0} → List Decision → Item R → PriceList R → List (OpenNode R)
opened node item prices = map (λ child. record { node = child; start = prices }) (children node item)

-- one turn, while a node is open and the count is below the budget: the first open node is taken and counted, it
-- becomes an item, and the nodes that the item opens are put at the front, the yes child first
pub record IsTurn {R : Type 0} (cmp : R → R → Ordering) (net : Net) (rows : Rows R) (bids : List Bid) (steps budget : ℕ) (before after : State R) : Type 0 where
  pub below : before.count < budget
  pub first : OpenNode R
  pub rest : List (OpenNode R)
  pub taken : before.open_nodes ≡ first ∷ rest
  pub item : Item R
  pub prices : PriceList R
  pub becomes : IsDeadTurn cmp net rows bids first.node before.incumbent after.incumbent item
      ⊎ IsPricedTurn cmp net rows bids steps first before.incumbent after.incumbent item prices
  pub opens : after.open_nodes ≡ opened first.node item prices ++ rest
  pub items : after.items ≡ before.items ++ item ∷ []
  pub count : after.count ≡ before.count + 1

-- so many turns lead from one state to another
abbrev pub Turns : {R : Type 0} → (R → R → Ordering) → Net → Rows R → List Bid → ℕ → ℕ → ℕ → State R → State R → Type 0
Turns cmp net rows bids steps budget zero before after = after ≡ before
Turns {R} cmp net rows bids steps budget (suc n) before after =
    (next : State R) × IsTurn cmp net rows bids steps budget before next × Turns cmp net rows bids steps budget n next after

-- no node is open, or the budget is spent
abbrev pub IsOver : {R : Type 0} → ℕ → State R → Type 0
IsOver budget s = (s.open_nodes ≡ []) ⊎ (budget ≤ s.count)

-- a leaf with the start prices of a node that stays open
abbrev pub priced_open : {R : Type 0} → OpenNode R → Item R
priced_open waiting = Priced waiting.start

-- what a plan is made of
pub record Planned (R : Type 0) : Type 0 where
  pub choice : List (Option (List Leg))
  pub revenue : ℤ
  pub bound : ℤ
  pub nodes : ℕ
  pub tree : List (Item R)

-- the plan of the plain planner: the turns from the first state until it is over; then each open node becomes a priced
-- leaf with its start prices, and the bound is the greatest of the priced leaves' dual values in whole cents, rounded down
pub record IsPlainPlan {R : Type 0} (cmp : R → R → Ordering) (net : Net) (rows : Rows R) (bids : List Bid) (steps budget : ℕ) (plan : Planned R) : Type 0 where
  pub last : State R
  pub turns : Turns cmp net rows bids steps budget last.count (first_state bids) last
  pub over : IsOver budget last
  pub choice : plan.choice ≡ last.incumbent
  pub revenue : plan.revenue ≡ revenue_of net bids last.incumbent
  pub nodes : plan.nodes ≡ last.count
  pub tree : plan.tree ≡ last.items ++ map priced_open last.open_nodes
  pub bound : IsGreatestBound net rows bids plan.tree plan.bound
