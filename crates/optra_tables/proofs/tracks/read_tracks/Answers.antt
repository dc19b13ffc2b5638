-- There is less room than rows can be counted.
use Rattle.optra_tables.proofs.StepLemmas.{track_rows_few}
use Rattle.optra_tables.proofs.tracks.read_tracks.Goals as goal

pub read_rows-requires-clause-room : goal.read_rows-requires-clause-room
read_rows-requires-clause-room c = track_rows_few c.args.net.now
