-- The bids of a demo, and their stops.
use Rattle.std.specs.Prelude.{ℕ, ◌+◌, ◌-◌, ◌*◌, ◌/◌, ◌==◌, nat_le, Bool, List, [], ◌∷◌, ◌++◌, map, sum_by, take, drop, codes, if◌then◌else◌}
use Rattle.std.specs.Fmt.{decimal}
use Rattle.std.specs.List.{flat_map, range_with_len}
use Rattle.optra_records.specs.Reading.{Field, Record}
use Rattle.optra_demo.specs.Draws.{after, draw}
use Rattle.optra_demo.specs.Kinds.{extra_of, kind_at, kind_name}
use Rattle.optra_demo.specs.Names.{bid_name, bidder_name, station_name}
use Rattle.optra_demo.specs.declared.demo_bid.DemoBid.{DemoBid}

-- how many bids a demo of a size has
abbrev pub bid_count : ℕ → ℕ
bid_count size = 20 * size

-- what the seven draws behind a state make between so many stations
unfoldable pub bid_from : ℕ → ℕ → ℕ → DemoBid
bid_from stations number x =
    let tracks = 2 + draw x 3 (stations - 2) in
    record {
      number = number;
      bidder = 1 + draw x 0 5;
      kind = kind_at (draw x 1 3);
      is_back = draw x 2 2 == 1;
      tracks = tracks;
      offset = draw x 4 (stations - tracks);
      depart = 30 + draw x 5 180;
      base = 2000 + 500 * tracks + draw x 6 2000;
    }

-- the bid of a number from 1, which is drawn behind the bids before it
abbrev pub bid_at : ℕ → ℕ → ℕ → DemoBid
bid_at stations x number = bid_from stations number (after x (7 * (number - 1)))

-- so many bids, by the draws behind a state
abbrev pub bids_from : ℕ → ℕ → ℕ → List DemoBid
bids_from stations x count = map (bid_at stations x) (range_with_len 1 count)

-- the station that the train comes from, or goes to the other way
abbrev pub near_end : DemoBid → ℕ
near_end bid = bid.offset + 1

abbrev pub far_end : DemoBid → ℕ
far_end bid = bid.offset + bid.tracks + 1

-- the minutes of its running over the segments on its way
abbrev pub way_minutes : List ℕ → DemoBid → ℕ
way_minutes minutes bid = sum_by (λ d. d + extra_of bid.kind) (take bid.tracks (drop bid.offset minutes))

-- the ideal arrival: two minutes for the halts at both ends
abbrev pub ideal_arrival : List ℕ → DemoBid → ℕ
ideal_arrival minutes bid = bid.depart + 2 + way_minutes minutes bid

-- its names: its own, its bidder's, its type's and those of its ends
abbrev pub name_fields : DemoBid → Record
name_fields bid =
    bid_name bid.number ∷ bidder_name bid.bidder ∷ kind_name bid.kind
    ∷ station_name (if bid.is_back then far_end bid else near_end bid)
    ∷ station_name (if bid.is_back then near_end bid else far_end bid) ∷ []

abbrev pub window_fields : ℕ → ℕ → ℕ → Record
window_fields early ideal late = decimal (ideal - early) ∷ decimal ideal ∷ decimal (ideal + late) ∷ []

-- the six rates, and the longest wait
abbrev pub rate_fields : Record
rate_fields = map decimal (20 ∷ 30 ∷ 10 ∷ 40 ∷ 5 ∷ 15 ∷ 3 ∷ [])

abbrev pub bid_row : List ℕ → DemoBid → Record
bid_row minutes bid =
    name_fields bid ++ (window_fields 10 bid.depart 10 ++ (window_fields 10 (ideal_arrival minutes bid) 20 ++ (decimal bid.base ∷ rate_fields)))

-- a bid over at least four tracks stops halfway
abbrev pub stop_rows : DemoBid → List Record
stop_rows bid =
    if nat_le 4 bid.tracks
    then (bid_name bid.number ∷ station_name (bid.offset + 1 + bid.tracks / 2) ∷ map decimal (1 ∷ 3 ∷ 0 ∷ 2879 ∷ [])) ∷ []
    else []

abbrev pub bids_header : Record
bids_header =
    codes "bid" ∷ codes "bidder" ∷ codes "type" ∷ codes "origin" ∷ codes "destination"
    ∷ codes "depart_from" ∷ codes "depart_ideal" ∷ codes "depart_to" ∷ codes "arrive_from" ∷ codes "arrive_ideal" ∷ codes "arrive_to"
    ∷ codes "base" ∷ codes "early_depart" ∷ codes "late_depart" ∷ codes "early_arrive" ∷ codes "late_arrive" ∷ codes "travel" ∷ codes "wait"
    ∷ codes "wait_max" ∷ []

abbrev pub bid_records : List ℕ → List DemoBid → List Record
bid_records minutes bids = bids_header ∷ map (bid_row minutes) bids

abbrev pub stops_header : Record
stops_header = codes "bid" ∷ codes "station" ∷ codes "min_dwell" ∷ codes "max_dwell" ∷ codes "arrive_from" ∷ codes "arrive_to" ∷ []

abbrev pub stop_records : List DemoBid → List Record
stop_records bids = stops_header ∷ flat_map stop_rows bids
