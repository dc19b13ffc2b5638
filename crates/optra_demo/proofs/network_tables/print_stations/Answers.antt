use Rattle.optra_demo.specs.Networks.{station_rows}
use Rattle.optra_demo.proofs.RowLemmas.{rows_kept}
use Rattle.optra_demo.proofs.network_tables.print_stations.Goals as goal

pub stations-preserved : goal.stations-preserved
stations-preserved c = rows_kept station_rows c.stations.k c.args.printer.now c.stations.printer c.print_station.new.printer c.stations.invariant c.in_ok-print_station.ensures
