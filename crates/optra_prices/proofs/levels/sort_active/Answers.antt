use Rattle.optra_prices.proofs.ActiveOrderLemmas.{levels_ordered}
use Rattle.optra_prices.proofs.levels.sort_active.Goals as goal

pub returns-clause-levels : goal.returns-clause-levels
returns-clause-levels c = levels_ordered c.args.levels.now _ c.requires c.sort_unstable.ensures.permutation
