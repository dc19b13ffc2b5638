-- The laws of nodes and certificates.
use Rattle.std.specs.Prelude.{◌≡◌, ℕ, ◌↔◌, List, [], ◌++◌, Option, All, Contains}
use Rattle.std.specs.Prelude.{ℤ, pos, ◌*ℤ◌, ◌≤ℤ◌}
use Rattle.std.specs.declared.cmp.Ordering.{Ordering}
use Rattle.std.specs.Ordering.{eq_by_cmp}
use Rattle.optra_network.specs.Net.{Net}
use Rattle.optra_network.specs.declared.TypeId.{TypeId}
use Rattle.optra_bid.specs.declared.bids.Bid.{Bid}
use Rattle.optra_walk.specs.declared.Leg.{Leg}
use Rattle.optra_walk.specs.Choices.{IsChoice, revenue_of}
use Rattle.optra_walk.specs.Families.{Rows, Entry, IsUsable, entries_of}
use Rattle.optra_node.specs.declared.Decision.{Decision}
use Rattle.optra_node.specs.declared.Item.{Item}
use Rattle.optra_node.specs.declared.Item.TheVariants.{Priced}
use Rattle.optra_node.specs.Nodes.{DecidesOnce, IsOfNode, IsAllowed}
use Rattle.optra_node.specs.Spans.{IsLegOk, IsStartOk}
use Rattle.optra_walk.specs.Walks.{IsWalk}
use Rattle.optra_walk.specs.Values.{first_departure}
use Rattle.optra_node.specs.Duals.{sum_of, leg_price, price_of, PriceList, ArePrices, IsDead, IsDual}
use Rattle.optra_node.specs.Trees.{IsTree, places}
use Rattle.optra_node.specs.Certificates.{SplitsUndecided, EndsDead, IsGreatestBound, IsValid}

-- a choice of a node that keeps the rule earns at most the node's dual value at any prices
abbrev pub WeakDuality : {R : Type 0} → Net → Rows R → (List Entry → Type 0) → List Bid → Type 0
WeakDuality {R} net rows Keeps bids =
    (node : List Decision) (prices : PriceList R) (terms : List ℤ) (value : ℤ) (walks : List (Option (List Leg)))
    → DecidesOnce node → ArePrices rows prices → IsDual net rows bids node prices terms value
    → IsChoice net bids walks → IsOfNode walks node → Keeps (entries_of bids walks)
    → (pos 1000 *ℤ revenue_of net bids walks) ≤ℤ value

-- the choice is of a priced leaf of the tree
abbrev pub IsOfLeaf : {R : Type 0} → List (Item R) → List (Option (List Leg)) → Type 0
IsOfLeaf {R} tree walks = (node : List Decision) × (prices : PriceList R) × Contains (places tree) (node, Priced prices) × IsOfNode walks node

-- where splits are of undecided legs and the leaves without prices are dead, each choice that keeps the rule is of a priced leaf
abbrev pub TreeCover : {R : Type 0} → Net → Rows R → (List Entry → Type 0) → List Bid → Type 0
TreeCover {R} net rows Keeps bids =
    (tree : List (Item R)) (walks : List (Option (List Leg)))
    → IsTree tree → All (λ p. SplitsUndecided p.0 p.1) (places tree) → All (λ p. EndsDead net rows bids p.0 p.1) (places tree)
    → IsChoice net bids walks → Keeps (entries_of bids walks) → IsOfLeaf tree walks

-- the bound of a valid certificate is at least the revenue of each choice that keeps the rule
abbrev pub BoundHolds : {R : Type 0} → Net → Rows R → (List Entry → Type 0) → List Bid → Type 0
BoundHolds {R} net rows Keeps bids =
    (revenue bound : ℤ) (choice : List (Option (List Leg))) (tree : List (Item R)) (walks : List (Option (List Leg)))
    → IsTree tree → IsValid net rows Keeps bids revenue bound choice tree
    → IsChoice net bids walks → Keeps (entries_of bids walks) → revenue_of net bids walks ≤ℤ bound

-- a walk of a bid is allowed exactly where its start and each of its legs pass their tests
abbrev pub TestsTellAllowed : {R : Type 0} → Net → Rows R → List Bid → Type 0
TestsTellAllowed net rows bids =
    (node : List Decision) (number : ℕ) (bid : Bid) (legs : List Leg) → IsWalk net bid.path legs
    → IsAllowed net rows bids node number bid legs ↔ (IsStartOk node number (first_departure legs) × All (IsLegOk net rows bids node number bid.path.kind) legs)

-- a node has at most one dual value at prices
abbrev pub OneDual : {R : Type 0} → Net → Rows R → List Bid → Type 0
OneDual {R} net rows bids =
    (node : List Decision) (prices : PriceList R) (terms terms' : List ℤ) (value value' : ℤ)
    → IsDual net rows bids node prices terms value → IsDual net rows bids node prices terms' value' → value ≡ value'

-- a tree has at most one bound
abbrev pub OneBound : {R : Type 0} → Net → Rows R → List Bid → Type 0
OneBound {R} net rows bids =
    (tree : List (Item R)) (bound bound' : ℤ) → IsGreatestBound net rows bids tree bound → IsGreatestBound net rows bids tree bound' → bound ≡ bound'

-- with more decisions, the dual value at the same prices is no greater, where the node was live and its value not negative
abbrev pub DualFalls : {R : Type 0} → Net → Rows R → List Bid → Type 0
DualFalls {R} net rows bids =
    (node more : List Decision) (prices : PriceList R) (terms later : List ℤ) (value value' : ℤ)
    → IsDual net rows bids node prices terms value → IsDual net rows bids (node ++ more) prices later value'
    → (IsDead net rows bids node → ⊥) → pos 0 ≤ℤ value → value' ≤ℤ value

-- at zero prices the dual value is at most the bases
abbrev pub BasesBound : {R : Type 0} → Net → Rows R → List Bid → Type 0
BasesBound {R} net rows bids =
    (node : List Decision) (terms : List ℤ) (value : ℤ) → IsDual {R = R} net rows bids node [] terms value → value ≤ℤ (pos 1000 *ℤ sum_of (λ b. b.money.base) bids)

-- the bound of a valid certificate is not negative
abbrev pub BoundNotNegative : {R : Type 0} → Net → Rows R → (List Entry → Type 0) → List Bid → Type 0
BoundNotNegative {R} net rows Keeps bids =
    (revenue bound : ℤ) (choice : List (Option (List Leg))) (tree : List (Item R)) → IsTree tree → IsValid net rows Keeps bids revenue bound choice tree → pos 0 ≤ℤ bound

-- the price of a leg by the rows that it uses, with the price of each looked up, is its price by the rows that are listed
abbrev pub PricesByUsedRows : {R : Type 0} → Net → Rows R → (R → R → Ordering) → (TypeId → Leg → List R) → Type 0
PricesByUsedRows {R} net rows cmp used =
    (prices : PriceList R) (kind : TypeId) (leg : Leg) → IsUsable net kind leg
    → sum_of (λ row. price_of (eq_by_cmp cmp) prices row *ℤ pos (rows.uses kind leg row)) (used kind leg) ≡ leg_price rows prices kind leg
