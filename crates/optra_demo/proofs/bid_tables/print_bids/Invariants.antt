use Rattle.std.proofs.Common.{◌≡◌, ◌++◌, take, map}
use Rattle.optra_records.specs.Texts.{records_text}
use Rattle.optra_demo.specs.Bids.{bid_row}
use Rattle.optra_demo.proofs.bid_tables.print_bids.Given as goal

abbrev pub invariant-bids : goal.invariant-bids
invariant-bids l = l.printer ≡ l.initial.printer ++ records_text (map (bid_row l.fn.minutes) (take l.bid-index l.bids))
