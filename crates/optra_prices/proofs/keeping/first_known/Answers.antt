use Rattle.optra_prices.proofs.NarrowLemmas.{free_up}
use Rattle.optra_prices.proofs.keeping.first_known.Goals as goal

pub first_standings-requires-clause-grouped : goal.first_standings-requires-clause-grouped
first_standings-requires-clause-grouped c = free_up
