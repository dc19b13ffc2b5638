use Rattle.optra_prices.specs.Overfull.{ListsAboveTo}
use Rattle.optra_prices.proofs.overfull.rows_above.Given as goal

abbrev pub invariant-loop-k : goal.invariant-loop-k
invariant-loop-k g l = ListsAboveTo l.numbered.items l.levels l.k l.listed.items
