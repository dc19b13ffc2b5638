use Rattle.optra_prices.proofs.TellingLemmas.{DueBelow}
use Rattle.optra_prices.proofs.telling.tell_due.Given as goal

abbrev pub invariant-loop-g : goal.invariant-loop-g
invariant-loop-g l = DueBelow l.g-index l.columns.due.items l.holders l.fn.told.items l.told.items
