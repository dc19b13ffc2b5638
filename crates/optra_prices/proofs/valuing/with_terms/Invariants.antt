use Rattle.optra_prices.proofs.ValueOfLemmas.{IsTermSum}
use Rattle.optra_prices.proofs.valuing.with_terms.Given as goal

abbrev pub invariant-loop-standing : goal.invariant-loop-standing
invariant-loop-standing l = IsTermSum l.capacity l.standings l.standing-index l.total
