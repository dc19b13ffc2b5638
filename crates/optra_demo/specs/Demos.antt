-- The tables of a demo.
use Rattle.std.specs.Prelude.{◌≡◌, ℕ, List, length}
use Rattle.optra_records.specs.Texts.{records_text}
use Rattle.optra_demo.specs.Bids.{bid_count, bid_records, bids_from, stop_records}
use Rattle.optra_demo.specs.Draws.{after, first_state}
use Rattle.optra_demo.specs.Networks.{headway_records, running_records, segment_count, segment_minutes, station_count, station_records, track_records, type_records}
use Rattle.optra_demo.specs.declared.demo_bid.DemoBid.{DemoBid}
use Rattle.optra_demo.specs.declared.demo_tables.DemoTables.{DemoTables}

-- the minutes of its segments, by the first draws
abbrev pub minutes_of : ℕ → ℕ → List ℕ
minutes_of seed size = segment_minutes (first_state seed) (segment_count size)

-- its bids, by the draws behind those of the segments
abbrev pub bids_of : ℕ → ℕ → List DemoBid
bids_of seed size = bids_from (station_count size) (after (first_state seed) (segment_count size)) (bid_count size)

-- The tables of so many stations, of segments of these minutes and of these bids.
pub record AreTables (count : ℕ) (segments : List ℕ) (drawn : List DemoBid) (tables : DemoTables) : Type 0 where
  pub stations : tables.stations.items ≡ records_text (station_records count)
  pub tracks : tables.tracks.items ≡ records_text (track_records (length segments))
  pub types : tables.types.items ≡ records_text type_records
  pub running : tables.running.items ≡ records_text (running_records segments)
  pub headways : tables.headways.items ≡ records_text (headway_records (length segments))
  pub bids : tables.bids.items ≡ records_text (bid_records segments drawn)
  pub stops : tables.stops.items ≡ records_text (stop_records drawn)

-- The tables of the demo of a seed and a size.
abbrev pub AreDemo : ℕ → ℕ → DemoTables → Type 0
AreDemo seed size tables = AreTables (station_count size) (minutes_of seed size) (bids_of seed size) tables
