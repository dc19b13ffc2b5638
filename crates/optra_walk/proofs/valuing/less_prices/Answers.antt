use Rattle.std.proofs.Common.{arith}
use Rattle.std.proofs.lemmas.Int.{ints}
use Rattle.optra_walk.proofs.valuing.less_prices.Goals as goal

pub returns : goal.returns
returns c = omega (arith, ints)
