use Rattle.optra_cross.proofs.FewRows.{few_rows}
use Rattle.optra_cross.proofs.laws.cross_rows_are_few.Goals as goal

pub returns : goal.returns
returns c = few_rows c.args.net.now c.laws.ensures
