use Rattle.optra_house.proofs.TakenLemmas.{acts_amounts}
use Rattle.optra_house.proofs.round.Round.read_fields.Goals as goal

pub returns-clause-amounts : goal.returns-clause-amounts
returns-clause-amounts c = acts_amounts _ _ _ c.in_ok-acts.ensures
