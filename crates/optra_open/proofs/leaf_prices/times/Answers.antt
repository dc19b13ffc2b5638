use Rattle.std.proofs.Common.{arith, ◌<◌}
use Rattle.optra_rests.proofs.ProductLemmas.{price_times_fit, price_times_value}
use Rattle.optra_open.proofs.leaf_prices.times.Goals as goal

pub overflow_mul-result : goal.overflow_mul-result
overflow_mul-result c =
    let few : c.args.count < 4294967296 = omega (arith, c.ranges.count) in
    price_times_fit c.args.price c.from.result c.from-2.result c.args.count c.requires few c.from.ensures c.from-2.ensures

pub returns : goal.returns
returns c =
    let few : c.args.count < 4294967296 = omega (arith, c.ranges.count) in
    price_times_value c.args.price c.from.result c.from-2.result c.args.count c.requires few c.from.ensures c.from-2.ensures
