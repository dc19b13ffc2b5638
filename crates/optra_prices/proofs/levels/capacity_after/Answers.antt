use Rattle.std.proofs.Common.{◌∙◌}
use Rattle.std.specs.Prelude.{pos, ◌+ℤ◌, ◌-ℤ◌, ◌*ℤ◌}
use Rattle.optra_prices.proofs.RangeLemmas.{row_price_same, row_price_kept, price_moved_fits, price_total_fits, price_total_value}
use Rattle.optra_prices.proofs.levels.capacity_after.Goals as goal

pub capacity_product-requires-clause-price : goal.capacity_product-requires-clause-price
capacity_product-requires-clause-price c = row_price_kept c.args.new c.requires.new

pub capacity_product-requires-2-clause-price : goal.capacity_product-requires-2-clause-price
capacity_product-requires-2-clause-price c = row_price_kept c.args.old c.requires.old

pub overflow_sub-result : goal.overflow_sub-result
overflow_sub-result c = price_moved_fits c.args.total c.capacity_product-2.result c.capacity_product.result c.requires.total c.capacity_product-2.ensures.range c.capacity_product.ensures.range

pub overflow_add-result : goal.overflow_add-result
overflow_add-result c = price_total_fits c.args.total c.capacity_product-2.result c.capacity_product.result c.requires.total c.capacity_product-2.ensures.range c.capacity_product.ensures.range

pub returns : goal.returns
returns c =
    let new = c.capacity_product.ensures.value ∙ (λ i. row_price_same c.args.new c.requires.new i *ℤ pos c.args.capacity) in
    let old = c.capacity_product-2.ensures.value ∙ (λ i. row_price_same c.args.old c.requires.old i *ℤ pos c.args.capacity) in
    price_total_value c.args.total c.capacity_product-2.result c.capacity_product.result c.requires.total c.capacity_product-2.ensures.range c.capacity_product.ensures.range ∙ (λ i. c.args.total +ℤ (new i -ℤ old i))
