-- What is printed, with the stops that are left, is the whole.
use Rattle.std.proofs.Common.{◌≡◌, ◌++◌, map, drop}
use Rattle.optra_records.specs.Texts.{records_text}
use Rattle.optra_tables.specs.Written.{stop_record}
use Rattle.optra_tables.proofs.writing.print_stops_of.Given as goal

abbrev pub invariant-stops : goal.invariant-stops
invariant-stops l =
    l.printer ++ records_text (map (stop_record l.net l.name) (drop l.stop-index l.stops)) ≡ l.fn.printer ++ records_text (map (stop_record l.net l.name) l.stops)
