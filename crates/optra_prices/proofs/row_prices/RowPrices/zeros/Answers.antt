use Rattle.std.proofs.Common.{◌∙◌, ap}
use Rattle.optra_prices.specs.RowPrices.{prices_of}
use Rattle.optra_prices.proofs.RowPriceLemmas.{prices_zero}
use Rattle.optra_prices.proofs.row_prices.RowPrices.zeros.Goals as goal

pub returns : goal.returns
returns c = ap prices_of (c.in_ok-narrow.ensures.items_if_clones_equal (λ y e. e)) ∙ prices_zero c.args.count
