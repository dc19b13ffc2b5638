-- There is less room than rows can be counted.
use Rattle.optra_tables.proofs.StepLemmas.{crossing_rows_few}
use Rattle.optra_tables.proofs.crossings.read_crossings.Goals as goal

pub read_rows-requires-clause-room : goal.read_rows-requires-clause-room
read_rows-requires-clause-room c = crossing_rows_few c.args.net.now
