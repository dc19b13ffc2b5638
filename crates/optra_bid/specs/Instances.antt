-- Instances: the bids that are planned together on a network.
use Rattle.std.specs.Prelude.{◌≤◌, List, length, All}
use Rattle.optra_network.specs.Net.{Net}
use Rattle.optra_bid.specs.Specs.{IsPathOn}
use Rattle.optra_bid.specs.declared.bids.Bid.{Bid}

-- at most 1,000 bids, each of which is for a path on the network
pub record IsInstance (net : Net) (bids : List Bid) : Type 0 where
  pub few : length bids ≤ 1000
  pub paths : All (λ bid. IsPathOn net bid.path) bids
