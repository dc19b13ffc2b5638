-- There is less room than rows can be counted.
use Rattle.optra_tables.proofs.StepLemmas.{station_rows_few}
use Rattle.optra_tables.proofs.limited_stations.read_limited_stations.Goals as goal

pub read_rows-requires-clause-room : goal.read_rows-requires-clause-room
read_rows-requires-clause-room c = station_rows_few c.args.net.now
