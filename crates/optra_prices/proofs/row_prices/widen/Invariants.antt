use Rattle.std.proofs.Common.{◌≡◌, take}
use Rattle.optra_prices.specs.RowPrices.{prices_of}
use Rattle.optra_prices.proofs.row_prices.widen.Given as goal

abbrev pub invariant-loop-price : goal.invariant-loop-price
invariant-loop-price l = l.wide.items ≡ prices_of (take l.price-index l.narrow)
