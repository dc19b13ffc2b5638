use Rattle.optra_house.proofs.LawLemmas.{is_round, round_is}
use Rattle.optra_house.proofs.laws.round_law.Goals as goal

pub returns : goal.returns
returns c = λ payload posting are. (round_is payload posting are, is_round payload posting)
