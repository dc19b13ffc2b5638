use Rattle.optra_house.proofs.RestLemmas.{rest_inside, rest_opens}
use Rattle.optra_house.proofs.Torn.{stays}
use Rattle.optra_house.proofs.laws.rest_laws.Goals as goal

pub returns-clause-opens : goal.returns-clause-opens
returns-clause-opens c = rest_opens

pub returns-clause-stays : goal.returns-clause-stays
returns-clause-stays c = λ stamp specs rules house moment rest image left. stays moment image rest.settled.synced left

pub returns-clause-inside : goal.returns-clause-inside
returns-clause-inside c = rest_inside
