-- The stops of one more bid are printed.
use Rattle.std.proofs.Common.{ap, map}
use Rattle.std.proofs.lemmas.Grind.{flat_map-append}
use Rattle.std.specs.List.{flat_map}
use Rattle.optra_bid.specs.declared.bids.Bid.{Bid}
use Rattle.optra_records.specs.Texts.{record_text, records_text}
use Rattle.optra_bid.specs.Offers.{offer_of}
use Rattle.optra_tables.specs.Written.{IsSound, stop_records}
use Rattle.optra_tables.proofs.WrittenPrints.{next_printed, one_more}
use Rattle.optra_tables.proofs.writing.print_stops.Goals as goal

pub bids-preserved : goal.bids-preserved
bids-preserved c =
    let net = c.args.net.now in
    let stops = ap (λ (bid : Bid). bid.path.stops) c.bid.view_is in
    let piece = stop_records net (offer_of c.bid-item.result) in
    record {
      rest =
          next_printed (λ bids. records_text (flat_map (stop_records net) (map offer_of bids))) (records_text piece)
          c.args.bids.now c.bids.bid-index c.bid-item.result c.bids.printer c.print_stops_of.new.printer _ c.bids-test.true c.bid-item.is
          (λ rest. flat_map-append record_text piece (flat_map (stop_records net) (map offer_of rest))) (rw (c.deref.ensures.value, c.name.ensures.text, stops) at c.in_ok-print_stops_of.ensures) c.bids.invariant.rest;
      sound = one_more (λ (bid : Bid). IsSound (offer_of bid)) c.args.bids.now c.bids.bid-index c.bid-item.result c.bids-test.true c.bid-item.is c.name.ensures.sound c.bids.invariant.sound;
    }
