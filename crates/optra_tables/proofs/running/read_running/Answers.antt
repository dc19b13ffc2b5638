-- There is less room than rows can be counted.
use Rattle.optra_tables.proofs.StepLemmas.{running_rows_few}
use Rattle.optra_tables.proofs.running.read_running.Goals as goal

pub read_rows-requires-clause-room : goal.read_rows-requires-clause-room
read_rows-requires-clause-room c = running_rows_few c.args.net.now
