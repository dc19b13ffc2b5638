-- What a search keeps while it runs.
use Rattle.std.specs.Prelude.{◌≡◌, ℕ, ◌<◌, List, [], ◌∷◌, ◌++◌, length, Option}
use Rattle.std.specs.Prelude.{ℤ}
use Rattle.std.specs.declared.cmp.Ordering.{Ordering}
use Rattle.optra_network.specs.Net.{Net}
use Rattle.optra_bid.specs.declared.bids.Bid.{Bid}
use Rattle.optra_walk.specs.declared.Leg.{Leg}
use Rattle.optra_walk.specs.Choices.{revenue_of}
use Rattle.optra_walk.specs.Families.{Rows}
use Rattle.optra_node.specs.declared.Decision.{Decision}
use Rattle.optra_node.specs.declared.Item.{Item}
use Rattle.optra_node.specs.Duals.{PriceList}
use Rattle.optra_node.specs.Trees.{places}
use Rattle.optra_search.specs.declared.waiting.Waiting.{Waiting}
use Rattle.optra_search.specs.Planner.{first_state, Turns}
use Rattle.optra_search.specs.Openings.{front, decisions_of, Nested, state_of, IsBoundSoFar}

-- the parts of a search: the node taken last, the waiting nodes, the items, the incumbent with its revenue, the bound so far and the count
pub record Parts (R : Type 0) : Type 0 where
  pub node : List Decision
  pub waiting : List (Waiting R)
  pub items : List (Item R)
  pub incumbent : List (Option (List Leg))
  pub revenue : ℤ
  pub bound : ℤ
  pub count : ℕ

-- the turns from the first state have led here
pub record IsReached {R : Type 0} (cmp : R → R → Ordering) (net : Net) (rows : Rows R) (bids : List Bid) (steps budget : ℕ) (s : Parts R) : Type 0 where
  pub nested : Nested (length s.node) (front s.waiting)
  pub turns : Turns cmp net rows bids steps budget s.count (first_state bids) (state_of s.node s.waiting s.items s.incumbent s.count)
  pub earned : s.revenue ≡ revenue_of net bids s.incumbent
  pub bound_is : IsBoundSoFar net rows bids (places s.items) s.bound

-- the top of the waiting nodes was taken off and entered: with it and the node before, the turns have led there
pub record IsEntered {R : Type 0} (cmp : R → R → Ordering) (net : Net) (rows : Rows R) (bids : List Bid) (steps budget : ℕ) (start : Option (PriceList R)) (s : Parts R) : Type 0 where
  pub before : List Decision
  pub top : Waiting R
  pub start_is : top.start ≡ start
  pub entered : s.node ≡ decisions_of before top
  pub below : s.count < budget
  pub reached : IsReached cmp net rows bids steps budget (record s { node = before; waiting = s.waiting ++ top ∷ [] })
