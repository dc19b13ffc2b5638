use Rattle.optra_prices.proofs.StandLemmas.{StandBelow}
use Rattle.optra_prices.proofs.sessions.first_standings.Given as goal

abbrev pub invariant-loop-number : goal.invariant-loop-number
invariant-loop-number l = StandBelow l.tables l.grouped.prices.now l.number l.standings.items
