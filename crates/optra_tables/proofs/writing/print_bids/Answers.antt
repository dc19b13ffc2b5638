-- One more record is printed.
use Rattle.std.proofs.Common.{map, refl}
use Rattle.optra_bid.specs.declared.bids.Bid.{Bid}
use Rattle.optra_records.specs.Texts.{record_text, records_text}
use Rattle.optra_bid.specs.Offers.{offer_of}
use Rattle.optra_tables.specs.Written.{IsSound, bid_record}
use Rattle.optra_tables.proofs.WrittenPrints.{next_printed, one_more}
use Rattle.optra_tables.proofs.writing.print_bids.Goals as goal

pub bids-preserved : goal.bids-preserved
bids-preserved c = record {
  rest =
      next_printed (λ bids. records_text (map (bid_record c.args.net.now) (map offer_of bids))) (record_text (bid_record c.args.net.now (offer_of c.bid-item.result)))
      c.args.bids.now c.bids.bid-index c.bid-item.result c.bids.printer c.print_bid.new.printer _ c.bids-test.true c.bid-item.is (λ rest. refl) c.in_ok-print_bid.ensures.text c.bids.invariant.rest;
  sound =
      one_more (λ (bid : Bid). IsSound (offer_of bid)) c.args.bids.now c.bids.bid-index c.bid-item.result c.bids-test.true c.bid-item.is c.in_ok-print_bid.ensures.sound c.bids.invariant.sound;
}
