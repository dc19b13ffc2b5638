use Rattle.std.proofs.Common.{◌≡◌, ◌∙◌, sym, subst}
use Rattle.optra_network.specs.declared.TypeId.{TypeId}
use Rattle.optra_walk.specs.Families.{IsUsable}
use Rattle.optra_node.specs.Nodes.{kind_at}
use Rattle.optra_node.specs.Duals.{ArePrices, leg_price}
use Rattle.optra_node.specs.Nodes.{InstanceNode}
use Rattle.optra_rests.specs.Sizes.{IsLegPrice}
use Rattle.optra_rests.proofs.ProductLemmas.{leg_price_same}
use Rattle.optra_open.proofs.open_node.OpenNode.leg_price.Goals as goal

pub leg_price-requires-clause-ascending : goal.leg_price-requires-clause-ascending
leg_price-requires-clause-ascending g c = c.requires.ascending

pub leg_price-requires-clause-usable : goal.leg_price-requires-clause-usable
leg_price-requires-clause-usable g c =
    let here = subst (λ (v : InstanceNode g.row.F.Denot). IsUsable v.net (kind_at v.bids c.args.bid) c.args.leg) (sym c.self.view_is) c.requires.usable in
    subst (λ (k : TypeId). IsUsable c.self.inside.inst.net.now k c.args.leg) (sym c.kind_at.ensures) here

pub leg_price-requires-clause-prices : goal.leg_price-requires-clause-prices
leg_price-requires-clause-prices g c = subst (λ (v : InstanceNode g.row.F.Denot). ArePrices (g.F.RowFamily.rows_of v.family v.net) c.args.prices.now) (sym c.self.view_is) c.requires.proper

pub returns-clause-value : goal.returns-clause-value
returns-clause-value g c =
    let inside = c.self.inside in
    let prices = c.args.prices.now in
    let price = c.leg_price.result in
    let here = subst (λ (k : TypeId). price ≡ leg_price (g.F.RowFamily.rows_of inside.rows.now inside.inst.net.now) prices k c.args.leg) c.kind_at.ensures c.leg_price.ensures.value in
    leg_price_same price c.leg_price.ensures.range
    ∙ subst (λ (v : InstanceNode g.row.F.Denot). price ≡ leg_price (g.F.RowFamily.rows_of v.family v.net) prices (kind_at v.bids c.args.bid) c.args.leg) c.self.view_is here

pub returns-clause-range : goal.returns-clause-range
returns-clause-range g c = subst IsLegPrice (sym (leg_price_same c.leg_price.result c.leg_price.ensures.range)) c.leg_price.ensures.range
