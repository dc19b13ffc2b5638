use Rattle.optra_prices.proofs.HolderLemmas.{told_next}
use Rattle.optra_prices.proofs.holders.told_up_to.Goals as goal

pub loop-first-preserved : goal.loop-first-preserved
loop-first-preserved c = told_next c.args.fallen.now c.loop-first.first c.if-fallen-first.true c.loop-first.invariant
