use Rattle.optra_cert.proofs.CountLemmas.{few_together}
use Rattle.optra_cert.proofs.laws.both_rows_are_few.Goals as goal

pub returns : goal.returns
returns g c = search few_together
