-- No table of version 1 adds a crossing or a limit.
use Rattle.optra_tables.proofs.AloneLemmas.{first_alone}
use Rattle.optra_tables.proofs.networks.read_first.Goals as goal

pub returns-clause-alone : goal.returns-clause-alone
returns-clause-alone c =
    first_alone c.args.net.now c.read_stations.new.net c.read_after_stations.new.net c.args.files.now.stations.now c.read_after_stations.result c.requires
    c.in_ok-read_stations.ensures.gives c.read_after_stations.ensures.alone
