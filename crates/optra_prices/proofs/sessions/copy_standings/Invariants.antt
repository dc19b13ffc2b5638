-- The copies so far.
use Rattle.optra_prices.proofs.StandLemmas.{CopiesBelow}
use Rattle.optra_prices.proofs.sessions.copy_standings.Given as goal

abbrev pub invariant-loop-standing : goal.invariant-loop-standing
invariant-loop-standing l = CopiesBelow l.standings l.standing-index l.copies.items
