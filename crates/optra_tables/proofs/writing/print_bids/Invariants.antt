-- What is printed, with the bids that are left, is the whole; the bids so far are sound.
use Rattle.std.proofs.Common.{◌≡◌, ◌++◌, ◌<◌, ℕ, map, drop, get_or}
use Rattle.optra_bid.specs.declared.bids.Bid.{Bid}
use Rattle.optra_records.specs.Texts.{records_text}
use Rattle.optra_bid.specs.Offers.{offer_of}
use Rattle.optra_tables.specs.Written.{IsSound, bid_record}
use Rattle.optra_tables.proofs.writing.print_bids.Given as goal

abbrev pub invariant-bids : goal.invariant-bids
invariant-bids l = record {
  rest : l.printer ++ records_text (map (bid_record l.net) (map offer_of (drop l.bid-index l.bids))) ≡ l.fn.printer ++ records_text (map (bid_record l.net) (map offer_of l.bids));
  sound : (k : ℕ) (d : Bid) → k < l.bid-index → IsSound (offer_of (get_or l.bids k d));
}
