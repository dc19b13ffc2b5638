-- There is less room than rows can be counted.
use Rattle.optra_tables.proofs.StepLemmas.{headway_rows_few}
use Rattle.optra_tables.proofs.headways.read_headways.Goals as goal

pub read_rows-requires-clause-room : goal.read_rows-requires-clause-room
read_rows-requires-clause-room c = headway_rows_few c.args.net.now
