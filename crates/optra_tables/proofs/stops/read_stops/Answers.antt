-- There is less room than rows can be counted.
use Rattle.optra_tables.proofs.BidStepLemmas.{stop_rows_few}
use Rattle.optra_tables.proofs.stops.read_stops.Goals as goal

pub read_rows-requires-clause-room : goal.read_rows-requires-clause-room
read_rows-requires-clause-room c = stop_rows_few c.args.bids.now c.requires
