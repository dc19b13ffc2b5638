-- The laws.
use Rattle.optra_dag.proofs.SkipLemmas.{stays_first_best, stays_worthless, stays_closed}
use Rattle.optra_dag.proofs.skipping.skip_laws.Goals as goal

pub returns : goal.returns
returns c = record {
  first_best = stays_first_best;
  worthless = stays_worthless;
  closed = stays_closed;
}
