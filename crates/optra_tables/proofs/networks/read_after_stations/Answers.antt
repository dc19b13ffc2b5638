-- No table behind the stations adds a crossing or a limit in version 1.
use Rattle.optra_tables.proofs.AloneLemmas.{headways_kept}
use Rattle.optra_tables.proofs.networks.read_after_stations.Goals as goal

pub returns-clause-alone : goal.returns-clause-alone
returns-clause-alone c =
    headways_kept c.args.net.now c.read_tracks.new.net c.read_types.new.net c.read_running.new.net c.read_headways.new.net
    c.args.files.now.tracks.now c.args.files.now.types.now c.args.files.now.running.now c.args.files.now.headways.now c.read_headways.result
    c.in_ok-read_tracks.ensures.gives c.in_ok-read_types.ensures.gives c.in_ok-read_running.ensures.gives c.read_headways.ensures.gives
