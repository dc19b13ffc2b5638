use Rattle.std.proofs.Common.{◌∙◌, sym}
use Rattle.optra_rests.proofs.ProductLemmas.{leg_price_same, price_is_cost}
use Rattle.optra_checker.proofs.leaf_weights.LeafWeightsWeighing.cost.Goals as goal

pub leg_ok_beside-requires-clause-rising : goal.leg_ok_beside-requires-clause-rising
leg_ok_beside-requires-clause-rising g c = c.args.self.now.rising

pub leg_ok_beside-requires-clause-all : goal.leg_ok_beside-requires-clause-all
leg_ok_beside-requires-clause-all g c = c.args.self.now.all

pub leg_price-requires-clause-ascending : goal.leg_price-requires-clause-ascending
leg_price-requires-clause-ascending g c = c.args.self.now.ascending

pub leg_price-requires-clause-proper : goal.leg_price-requires-clause-proper
leg_price-requires-clause-proper g c = c.args.self.now.proper

pub leg_ok_beside-requires-clause-bid : goal.leg_ok_beside-requires-clause-bid
leg_ok_beside-requires-clause-bid g c = c.args.self.now.in_range

pub leg_ok_beside-requires-clause-usable : goal.leg_ok_beside-requires-clause-usable
leg_ok_beside-requires-clause-usable g c = c.requires

pub leg_price-requires-clause-bid : goal.leg_price-requires-clause-bid
leg_price-requires-clause-bid g c = c.args.self.now.in_range

pub leg_price-requires-clause-usable : goal.leg_price-requires-clause-usable
leg_price-requires-clause-usable g c = c.requires

pub returns-then-leg_ok_beside : goal.returns-then-leg_ok_beside
returns-then-leg_ok_beside g c =
    let same = leg_price_same c.leg_price.result c.leg_price.ensures.range in
    (sym c.leg_ok_beside.ensures ∙ c.if-leg_ok_beside.true, same ∙ c.leg_price.ensures.value, price_is_cost c.leg_price.result c.leg_price.ensures.range)

pub returns-else-leg_ok_beside : goal.returns-else-leg_ok_beside
returns-else-leg_ok_beside g c = sym c.leg_ok_beside.ensures ∙ c.if-leg_ok_beside.false
