-- The tables that are written of bids.
use Rattle.std.specs.Prelude.{◌≡◌, ℕ, List, [], ◌∷◌, ◌++◌, map, true, Ok, unwrap_or, slice_get}
use Rattle.std.specs.Fmt.{decimal, signed_decimal}
use Rattle.std.specs.List.{flat_map}
use Rattle.optra_network.specs.Names.{is_name}
use Rattle.optra_network.specs.Net.{Net}
use Rattle.optra_bid.specs.Specs.{AreBounds}
use Rattle.optra_bid.specs.declared.Money.{Money}
use Rattle.optra_bid.specs.declared.Stop.{Stop}
use Rattle.optra_bid.specs.declared.Window.{Window}
use Rattle.optra_records.specs.Reading.{Field, Record}
use Rattle.optra_records.specs.Texts.{records_text}
use Rattle.optra_bid.specs.Offers.{Offer}
pub use Rattle.optra_bid.specs.Offers.{offers_of as parts}
use Rattle.optra_tables.specs.Bids.{bids_header}
use Rattle.optra_tables.specs.Stops.{bids_of, stops_header}

-- the name at a place of a list of names
abbrev pub named : List Field → ℕ → Field
named names place = unwrap_or (slice_get names place) []

-- the names of a bid: its own, its bidder's, its type's and those of its ends
abbrev pub name_fields : Net → Offer → Record
name_fields net bid =
    bid.name ∷ bid.bidder ∷ named net.types bid.path.kind.0
    ∷ named net.stations bid.path.origin.0 ∷ named net.stations bid.path.destination.0 ∷ []

-- the three minutes of a window
abbrev pub window_fields : Window → Record
window_fields window = decimal window.from ∷ decimal window.ideal ∷ decimal window.to ∷ []

-- the base and the six rates
abbrev pub money_fields : Money → Record
money_fields money =
    signed_decimal money.base
    ∷ signed_decimal money.early_depart ∷ signed_decimal money.late_depart
    ∷ signed_decimal money.early_arrive ∷ signed_decimal money.late_arrive
    ∷ signed_decimal money.travel ∷ signed_decimal money.wait ∷ []

-- the record of a bid
unfoldable pub bid_record : Net → Offer → Record
bid_record net bid =
    name_fields net bid
    ++ window_fields bid.path.depart ++ window_fields bid.path.arrive
    ++ money_fields bid.money ++ decimal bid.path.wait_max ∷ []

-- the record of a stop of the bid with this name
unfoldable pub stop_record : Net → Field → Stop → Record
stop_record net name stop =
    name ∷ named net.stations stop.station.0
    ∷ decimal stop.min_dwell ∷ decimal stop.max_dwell ∷ decimal stop.arrive.from ∷ decimal stop.arrive.to ∷ []

-- the records of a bid's stops, in their order
abbrev pub stop_records : Net → Offer → List Record
stop_records net bid = map (stop_record net bid.name) bid.path.stops

-- the records of the stops of the bids, bid by bid
abbrev pub all_stop_records : Net → List Offer → List Record
all_stop_records net bids = flat_map (stop_records net) bids

-- The table of the bids: its header, and a record for each bid.
unfoldable pub bids_table : Net → List Offer → List ℕ
bids_table net bids = records_text (bids_header ∷ map (bid_record net) bids)

-- The table of the stops: its header, and the records of each bid's stops in order.
unfoldable pub stops_table : Net → List Offer → List ℕ
stops_table net bids = records_text (stops_header ∷ all_stop_records net bids)

-- what every bid keeps: its two names are names, and its bounds
pub record IsSound (bid : Offer) : Type 0 where
  pub name : is_name bid.name ≡ true
  pub bidder : is_name bid.bidder ≡ true
  pub bounds : AreBounds bid.path bid.money

-- The two tables mean exactly these bids on the network.
abbrev pub Mean : Net → List ℕ → List ℕ → List Offer → Type 0
Mean net bids_bytes stops_bytes bids = bids_of net bids_bytes stops_bytes ≡ Ok bids
