-- The end of a search: the nodes that still wait become leaves, one after the other.
use Rattle.std.specs.Prelude.{◌≡◌, ◌++◌, List, length, map, All, ℤ, pos}
use Rattle.std.specs.declared.cmp.Ordering.{Ordering}
use Rattle.optra_network.specs.Net.{Net}
use Rattle.optra_bid.specs.Specs.{IsBetween}
use Rattle.optra_bid.specs.declared.bids.Bid.{Bid}
use Rattle.optra_walk.specs.Families.{Rows}
use Rattle.optra_node.specs.declared.Item.{Item}
use Rattle.optra_node.specs.Nodes.{IsNode}
use Rattle.optra_node.specs.Trees.{root, places, open_after}
use Rattle.optra_prices.specs.Steps.{AreProper}
use Rattle.optra_search.specs.Planner.{OpenNode, priced_open, Planned}
use Rattle.optra_search.specs.Openings.{front, open_from, Nested, IsBoundSoFar}
use Rattle.optra_search.specs.Searches.{Parts}

-- what 1,000 bids are worth at most, in cents
abbrev pub IsBound : ℤ → Type 0
IsBound cents = IsBetween (pos 0) (pos 1000000000000) cents

-- the nodes that wait, from the top down
abbrev pub waiting_of : {R : Type 0} → Parts R → List (OpenNode R)
waiting_of s = open_from s.node (front s.waiting)

-- the items, with a leaf for each node that waits
abbrev pub tree_of : {R : Type 0} → Parts R → List (Item R)
tree_of s = s.items ++ map priced_open (waiting_of s)

-- a node that waits may be asked of, and its start prices are proper
pub record MayBePriced {R : Type 0} (cmp : R → R → Ordering) (net : Net) (rows : Rows R) (bids : List Bid) (waiting : OpenNode R) : Type 0 where
  pub is_node : IsNode net (length bids) waiting.node
  pub proper : AreProper cmp rows waiting.start

-- the nodes that wait may become leaves
pub record MayClose {R : Type 0} (cmp : R → R → Ordering) (net : Net) (rows : Rows R) (bids : List Bid) (s : Parts R) : Type 0 where
  pub nested : Nested (length s.node) (front s.waiting)
  pub nodes : map (λ w. w.node) (waiting_of s) ≡ open_after root s.items
  pub each : All (MayBePriced cmp net rows bids) (waiting_of s)
  pub bound_is : IsBoundSoFar net rows bids (places s.items) s.bound

-- nodes that waited have become leaves
pub record HasClosed {R : Type 0} (before after : Parts R) : Type 0 where
  pub incumbent : after.incumbent ≡ before.incumbent
  pub revenue : after.revenue ≡ before.revenue
  pub count : after.count ≡ before.count
  pub tree : tree_of after ≡ tree_of before

-- the plan of a search in which no node waits
abbrev pub plan_of : {R : Type 0} → Parts R → Planned R
plan_of s = record { choice = s.incumbent; revenue = s.revenue; bound = s.bound; nodes = s.count; tree = s.items }
