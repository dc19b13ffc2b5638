-- What is printed, with the stops of the bids that are left, is the whole; the bids so far are sound.
use Rattle.std.proofs.Common.{◌≡◌, ◌++◌, ◌<◌, ℕ, map, drop, get_or}
use Rattle.std.specs.List.{flat_map}
use Rattle.optra_bid.specs.declared.bids.Bid.{Bid}
use Rattle.optra_records.specs.Texts.{records_text}
use Rattle.optra_bid.specs.Offers.{offer_of}
use Rattle.optra_tables.specs.Written.{IsSound, stop_records}
use Rattle.optra_tables.proofs.writing.print_stops.Given as goal

abbrev pub invariant-bids : goal.invariant-bids
invariant-bids l = record {
  rest :
      l.printer ++ records_text (flat_map (stop_records l.net) (map offer_of (drop l.bid-index l.bids)))
      ≡ l.fn.printer ++ records_text (flat_map (stop_records l.net) (map offer_of l.bids));
  sound : (k : ℕ) (d : Bid) → k < l.bid-index → IsSound (offer_of (get_or l.bids k d));
}
