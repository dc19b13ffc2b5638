use Rattle.std.proofs.Common.{arith}
use Rattle.std.proofs.lemmas.List.{get_or_default}
use Rattle.optra_demo.specs.Bids.{bid_row}
use Rattle.optra_demo.proofs.RowLemmas.{mapped_kept}
use Rattle.optra_demo.proofs.bid_tables.print_bids.Goals as goal

pub bids-preserved : goal.bids-preserved
bids-preserved c =
    mapped_kept (bid_row c.args.minutes.now) c.args.bids.now c.bids.bid-index _ c.args.printer.now c.bids.printer c.print_bid.new.printer (omega arith) (get_or_default c.args.bids.now c.bids.bid-index _ _ (omega arith)) c.bids.invariant
    c.in_ok-print_bid.ensures
