use Rattle.std.proofs.Common.{◌≡◌, ◌++◌}
use Rattle.std.specs.List.{flat_map, range_with_len}
use Rattle.optra_records.specs.Texts.{records_text}
use Rattle.optra_demo.specs.Networks.{station_rows}
use Rattle.optra_demo.proofs.network_tables.print_stations.Given as goal

abbrev pub invariant-stations : goal.invariant-stations
invariant-stations l = l.printer ≡ l.initial.printer ++ records_text (flat_map station_rows (range_with_len 1 l.k))
