use Rattle.optra_house.proofs.LawLemmas.{stamp_same}
use Rattle.optra_house.proofs.laws.stamp_law.Goals as goal

pub returns : goal.returns
returns c = stamp_same
