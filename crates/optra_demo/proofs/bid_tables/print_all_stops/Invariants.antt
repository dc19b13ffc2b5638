use Rattle.std.proofs.Common.{◌≡◌, ◌++◌, take}
use Rattle.std.specs.List.{flat_map}
use Rattle.optra_records.specs.Texts.{records_text}
use Rattle.optra_demo.specs.Bids.{stop_rows}
use Rattle.optra_demo.proofs.bid_tables.print_all_stops.Given as goal

abbrev pub invariant-bids : goal.invariant-bids
invariant-bids l = l.printer ≡ l.initial.printer ++ records_text (flat_map stop_rows (take l.bid-index l.bids))
