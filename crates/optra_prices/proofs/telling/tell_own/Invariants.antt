use Rattle.optra_prices.proofs.TellingLemmas.{OwnBelow}
use Rattle.optra_prices.proofs.telling.tell_own.Given as goal

abbrev pub invariant-loop-decision : goal.invariant-loop-decision
invariant-loop-decision l = OwnBelow l.decision-index l.decisions l.fn.told.items l.told.items
