use Rattle.optra_rows.proofs.FewRows.{few_rows}
use Rattle.optra_rows.proofs.headways.headway_rows_are_few.Goals as goal

pub returns : goal.returns
returns c rows ascend are = few_rows c.args.net.now rows c.laws.ensures ascend are
