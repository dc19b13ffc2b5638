-- What legs cost at a node, and which legs and starts it allows a walk of a bid.
use Rattle.std.specs.Prelude.{ℕ, List}
use Rattle.optra_network.specs.Net.{Net}
use Rattle.optra_network.specs.declared.TypeId.{TypeId}
use Rattle.optra_bid.specs.declared.bids.Bid.{Bid}
use Rattle.optra_walk.specs.declared.Leg.{Leg}
use Rattle.optra_walk.specs.Families.{Rows}
use Rattle.optra_node.specs.declared.Decision.{Decision}
use Rattle.optra_node.specs.Nodes.{InstanceNode, kind_at}
use Rattle.optra_node.specs.Duals.{PriceList, leg_price}
use Rattle.optra_open.specs.Tests.{may_start_at, may_have_leg}
use Rattle.optra_rests.specs.Weights.{Weights}

-- the starts and legs that the node allows a walk of the bid, and the prices of the legs
abbrev pub leaf_weights : {R : Type 0} → Net → Rows R → (TypeId → Leg → List R) → List Bid → List Decision → ℕ → PriceList R → TypeId → Weights
leaf_weights net rows used bids node number prices kind = record {
  net = net;
  kind = kind;
  may_start = may_start_at node number;
  may_have = may_have_leg net rows used bids node number kind;
  cost_of = leg_price rows prices kind;
}

-- the same of a bid at the node that is seen, over the rows of its family
abbrev pub weights_at : {X R : Type 0} → (X → Net → Rows R) → (X → Net → TypeId → Leg → List R) → InstanceNode X → ℕ → PriceList R → Weights
weights_at rows_of rows_used seen number prices =
    leaf_weights seen.net (rows_of seen.family seen.net) (rows_used seen.family seen.net) seen.bids seen.node number prices (kind_at seen.bids number)
