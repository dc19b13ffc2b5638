use Rattle.optra_cert.proofs.ApartLemmas.{headways_apart}
use Rattle.optra_cert.proofs.laws.headway_kinds_are_apart.Goals as goal

pub returns : goal.returns
returns c = headways_apart
