-- Prices at nodes, as a tree lists them.
use Rattle.std.specs.Prelude.{◌≡◌, List, Contains}
use Rattle.optra_walk.specs.Families.{Rows}
use Rattle.optra_node.specs.declared.Decision.{Decision}
use Rattle.optra_node.specs.declared.Item.{Item}
use Rattle.optra_node.specs.declared.Item.TheVariants.{Priced}
use Rattle.optra_node.specs.Duals.{PriceList, ArePrices}
use Rattle.optra_node.specs.Trees.{places}

-- at each priced leaf the prices that are listed there, and proper prices at every node
pub record AreListed {R : Type 0} (rows : Rows R) (tree : List (Item R)) (prices_at : List Decision → PriceList R) : Type 0 where
  pub at_leaves : (node : List Decision) (prices : PriceList R) → Contains (places tree) (node, Priced prices) → prices_at node ≡ prices
  pub proper : (node : List Decision) → ArePrices rows (prices_at node)
