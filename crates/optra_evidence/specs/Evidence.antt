-- The evidence that a valid certificate gives each bid.
use Rattle.std.specs.Prelude.{◌≡◌, ℕ, List, length, All, Some, slice_get}
use Rattle.optra_network.specs.Net.{Net}
use Rattle.optra_bid.specs.declared.bids.Bid.{Bid}
use Rattle.optra_walk.specs.Families.{Rows}
use Rattle.optra_node.specs.declared.Decision.{Decision}
use Rattle.optra_node.specs.declared.Item.{Item}
use Rattle.optra_node.specs.Duals.{PriceList}
use Rattle.optra_node.specs.Evidence.{IsMostWith, IsMostWithout}
use Rattle.optra_evidence.specs.declared.figures.Figures.{Figures}
use Rattle.optra_evidence.specs.Figures.{AreSmall}
use Rattle.optra_evidence.specs.Listed.{AreListed}

-- the two figures of the bid, with these prices at each leaf
pub record AreFigures {R : Type 0} (net : Net) (rows : Rows R) (bids : List Bid) (tree : List (Item R)) (prices_at : List Decision → PriceList R) (number : ℕ) (bid : Bid) (figures : Figures) : Type 0 where
  pub with : IsMostWith net rows bids tree prices_at number bid figures.served
  pub without : IsMostWithout net rows bids tree prices_at number figures.left

-- two figures for each bid, with the prices that the tree lists at each leaf
pub record IsEvidence {R : Type 0} (net : Net) (rows : Rows R) (bids : List Bid) (tree : List (Item R)) (figures : List Figures) : Type 0 where
  pub prices_at : List Decision → PriceList R
  pub listed : AreListed rows tree prices_at
  pub count : length figures ≡ length bids
  pub small : All AreSmall figures
  pub each : (number : ℕ) (bid : Bid) (f : Figures) → slice_get bids number ≡ Some bid → slice_get figures number ≡ Some f → AreFigures net rows bids tree prices_at number bid f
