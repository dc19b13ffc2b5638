use Rattle.std.proofs.Common.{◌≡◌, ◌∙◌, sym, subst}
use Rattle.optra_node.specs.Duals.{ArePrices, capacity_price}
use Rattle.optra_node.specs.Nodes.{InstanceNode}
use Rattle.optra_rests.specs.Sizes.{IsCapacityPrice}
use Rattle.optra_rests.proofs.ProductLemmas.{capacity_price_same}
use Rattle.optra_open.proofs.open_node.OpenNode.capacity_price.Goals as goal

pub capacity_price-requires : goal.capacity_price-requires
capacity_price-requires g c = subst (λ (v : InstanceNode g.row.F.Denot). ArePrices (g.F.RowFamily.rows_of v.family v.net) c.args.prices.now) (sym c.self.view_is) c.requires

pub returns-clause-value : goal.returns-clause-value
returns-clause-value g c =
    let price = c.capacity_price.result in
    capacity_price_same price c.capacity_price.ensures.range
    ∙ subst (λ (v : InstanceNode g.row.F.Denot). price ≡ capacity_price (g.F.RowFamily.rows_of v.family v.net) c.args.prices.now) c.self.view_is c.capacity_price.ensures.value

pub returns-clause-range : goal.returns-clause-range
returns-clause-range g c = subst IsCapacityPrice (sym (capacity_price_same c.capacity_price.result c.capacity_price.ensures.range)) c.capacity_price.ensures.range
