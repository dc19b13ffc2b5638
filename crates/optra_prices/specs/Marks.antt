-- Which arcs of a bid's graph an allowed walk may take.
use Rattle.std.specs.Prelude.{◌≡◌, ◌↔◌, ℕ, Bool, true, List, Some}
use Rattle.optra_network.specs.Net.{Net}
use Rattle.optra_bid.specs.declared.bids.Bid.{Bid}
use Rattle.optra_walk.specs.declared.Leg.{Leg}
use Rattle.optra_walk.specs.Families.{Rows}
use Rattle.optra_graph.specs.Timed.{Timed, leg_of, start_of}
use Rattle.optra_node.specs.declared.Decision.{Decision}
use Rattle.optra_node.specs.Nodes.{kind_at}
use Rattle.optra_node.specs.Spans.{IsLegOk, IsStartOk}

-- the mark tells whether the start or the leg of the arc passes the node's test
pub record IsMark {R : Type 0} (net : Net) (rows : Rows R) (bids : List Bid) (node : List Decision) (number : ℕ) (t : Timed) (k : ℕ) (mark : Bool) : Type 0 where
  pub start_is : (minute : ℕ) → start_of t k ≡ Some minute → (mark ≡ true) ↔ IsStartOk node number minute
  pub leg_is : (leg : Leg) → leg_of t k ≡ Some leg → (mark ≡ true) ↔ IsLegOk net rows bids node number (kind_at bids number) leg
