-- Without prices each leg has price 0.
use Rattle.std.proofs.Common.{sym, ap}
use Rattle.optra_node.specs.Duals.{leg_price}
use Rattle.optra_open.proofs.leaf_prices.leg_price.Goals as goal

pub returns-then-is_empty-clause-value : goal.returns-then-is_empty-clause-value
returns-then-is_empty-clause-value g c =
    sym (ap (λ prices. leg_price (g.F.RowFamily.rows_of c.args.rows.now c.args.inst.net.now) prices c.args.kind c.args.leg) (c.is_empty.ensures.0 c.if-is_empty.true))

pub used_price-requires-clause-usable : goal.used_price-requires-clause-usable
used_price-requires-clause-usable g c = c.requires.usable

pub used_price-requires-clause-ascending : goal.used_price-requires-clause-ascending
used_price-requires-clause-ascending g c = c.requires.ascending

pub used_price-requires-clause-prices : goal.used_price-requires-clause-prices
used_price-requires-clause-prices g c = c.requires.prices
