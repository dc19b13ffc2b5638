-- The stops of bids, and the bids that two tables mean, or their first fault.
use Rattle.std.specs.Prelude.{ℕ, List, [], ◌∷◌, ◌++◌, Result, Ok, codes, slice_get, slice_set}
use Rattle.optra_network.specs.Names.{place_of}
use Rattle.optra_network.specs.Net.{Net}
use Rattle.optra_network.specs.Refusals.{station_named}
use Rattle.optra_bid.specs.Bids.{stop_of, stop_refusal}
use Rattle.optra_bid.specs.declared.BidRefusal.TheVariants.{UnknownName}
use Rattle.optra_bid.specs.declared.RawStop.{RawStop}
use Rattle.optra_bid.specs.declared.Stop.{Stop}
use Rattle.optra_network.specs.declared.StationId.{StationId}
use Rattle.optra_records.specs.Reading.{Field, Record}
use Rattle.optra_bid.specs.Offers.{Offer}
use Rattle.optra_tables.specs.Bids.{bid_row, bids_header, names_of}
use Rattle.optra_tables.specs.Fields.{name_at, number_at, shaped, two_at}
use Rattle.optra_tables.specs.Outcomes.{◌>>=◌, bid_outcome, fault, or_fault}
use Rattle.optra_tables.specs.Rows.{table_read}
use Rattle.optra_tables.specs.declared.Kind.TheVariants as kinds
use Rattle.optra_tables.specs.declared.Table.TheVariants.{Bids, Stops}
use Rattle.optra_tables.specs.declared.TableFault.{TableFault}

abbrev pub stops_header : Record
stops_header = codes "bid" ∷ codes "station" ∷ codes "min_dwell" ∷ codes "max_dwell" ∷ codes "arrive_from" ∷ codes "arrive_to" ∷ []

-- a bid with one stop more
abbrev pub with_stop : Offer → Stop → Offer
with_stop bid stop = record bid { path = record bid.path { stops = bid.path.stops ++ stop ∷ [] } }

-- the bids with one more stop of the bid at the place, or what the bid refuses
abbrev pub stop_outcome : ℕ → List Offer → ℕ → Offer → RawStop → Result (List Offer) TableFault
stop_outcome row bids place bid raw = bid_outcome Stops row (stop_refusal bid.path raw) (slice_set bids place (with_stop bid (stop_of raw)))

-- the place of a bid and the id of a station, by their names
abbrev pub found_at : Net → List Offer → ℕ → Field → Field → Result (ℕ × StationId) TableFault
found_at net bids row name station = do
  place ← or_fault (fault Stops row (kinds.Bid UnknownName)) (place_of name (names_of bids))
  id ← or_fault (fault Stops row (kinds.Bid UnknownName)) (station_named net station)
  Ok (place, id)

-- the bids with one more stop of one of them: a bid or a station that is named isn't there, or the stop is refused
unfoldable pub stop_row : Net → List Offer → ℕ → Record → Result (List Offer) TableFault
stop_row net bids row fields = do
  form ← shaped Stops row 6 fields
  name ← name_at Stops row fields 0
  station ← name_at Stops row fields 1
  min_dwell ← number_at Stops row fields 2
  max_dwell ← number_at Stops row fields 3
  arrive ← two_at Stops row fields 4
  found ← found_at net bids row name station
  bid ← or_fault (fault Stops row (kinds.Bid UnknownName)) (slice_get bids found.0)
  stop_outcome row bids found.0 bid (record { station = found.1; min_dwell = min_dwell; max_dwell = max_dwell; arrive = arrive })

-- The bids that the two tables mean on a network, or their first fault.
unfoldable pub bids_of : Net → List ℕ → List ℕ → Result (List Offer) TableFault
bids_of net bids stops = do
  named ← table_read (bid_row net) Bids bids_header [] bids
  table_read (stop_row net) Stops stops_header named stops
