use Rattle.optra_prices.proofs.RangeLemmas.{price_times_fit, price_times_value, price_times_range}
use Rattle.optra_prices.proofs.levels.capacity_product.Goals as goal

pub overflow_mul-result : goal.overflow_mul-result
overflow_mul-result c = price_times_fit c.args.price c.from.result c.from-2.result c.args.capacity c.requires.price c.requires.capacity c.from.ensures c.from-2.ensures

pub returns-clause-value : goal.returns-clause-value
returns-clause-value c = price_times_value c.args.price c.from.result c.from-2.result c.args.capacity c.requires.price c.requires.capacity c.from.ensures c.from-2.ensures

pub returns-clause-range : goal.returns-clause-range
returns-clause-range c = price_times_range c.args.price c.from.result c.from-2.result c.args.capacity c.requires.price c.requires.capacity c.from.ensures c.from-2.ensures
