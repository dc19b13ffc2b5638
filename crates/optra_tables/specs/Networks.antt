-- The network that its tables mean, or their first fault. Tables of version 1 are five; those of version 2 have limits of
-- stations and the table of crossings too.
use Rattle.std.specs.Prelude.{◌≡◌, ◌≤◌, ℕ, Bool, List, [], ◌∷◌, length, ◌++◌, ◌||◌, not, nat_eq, nat_le, is_ok, is_some, Option, None, Some, Result, codes, unwrap_or, if◌then◌else◌}
use Rattle.std.specs.List.{list_all}
use Rattle.std.specs.Map.{lookup}
use Rattle.std.specs.Option.{option_map, option_map_or}
use Rattle.optra_network.specs.Headways.{type_id}
use Rattle.optra_network.specs.Net.{Net, CrossingRow, HasAllHeadways, empty_net, reach_of, same_quadruple, same_triple, track_id, turned}
use Rattle.optra_network.specs.Refusals.{after_crossing, after_headway, after_limited, after_running, after_track, crossing_refusal, first_of, headway_refusal, limited_refusal, running_refusal, station_refusal, track_refusal, type_refusal}
use Rattle.optra_network.specs.declared.NetRefusal.{NetRefusal}
use Rattle.optra_network.specs.declared.NetRefusal.TheVariants.{MissingHeadway, OneWayCrossing, Reach}
use Rattle.optra_records.specs.Reading.{Record, table_records}
use Rattle.optra_records.specs.Tables.{rows_under}
use Rattle.optra_tables.specs.Fields.{four_at, name_at, number_at, shaped}
use Rattle.optra_tables.specs.Outcomes.{◌>>=◌, net_outcome}
use Rattle.optra_tables.specs.Rows.{table_read}
use Rattle.optra_tables.specs.declared.NetFiles.{NetFiles}
use Rattle.optra_tables.specs.declared.Table.TheVariants.{Crossings, Headways, Running, Stations, Tracks, Types}
use Rattle.optra_tables.specs.declared.TableFault.{TableFault}

-- the tracks and types that are there are few, and each track has a name
pub record HasFew (net : Net) : Type 0 where
  pub tracks : length net.tracks ≤ 1000
  pub named : length net.track_names ≡ length net.tracks
  pub types : length net.types ≤ 16

-- few as they are, every two types that may both use a track have a headway on it
pub record IsWhole (net : Net) : Type 0 where
  pub few : HasFew net
  pub complete : HasAllHeadways net

-- there is no crossing, and no station has a limit
pub record HasHeadwaysAlone (net : Net) : Type 0 where
  pub crossings : net.crossings ≡ []
  pub limits : net.limits ≡ []

-- ---- stations

abbrev pub stations_header : Record
stations_header = codes "station" ∷ []

unfoldable pub station_row : Net → ℕ → Record → Result Net TableFault
station_row net row fields = do
  form ← shaped Stations row 1 fields
  name ← name_at Stations row fields 0
  net_outcome Stations row (station_refusal net name) (record net { stations = net.stations ++ name ∷ [] })

-- the header of version 2
abbrev pub limited_stations_header : Record
limited_stations_header = codes "station" ∷ codes "halt_max" ∷ []

-- what a station with its limit adds, or what the network refuses in it
abbrev pub limited_outcome : Net → ℕ → List ℕ → ℕ → Result Net TableFault
limited_outcome net row name halt_max = net_outcome Stations row (limited_refusal net name halt_max) (after_limited net name halt_max)

-- a record of version 2
unfoldable pub limited_station_row : Net → ℕ → Record → Result Net TableFault
limited_station_row net row fields = do
  form ← shaped Stations row 2 fields
  name ← name_at Stations row fields 0
  halt_max ← number_at Stations row fields 1
  limited_outcome net row name halt_max

-- The version of tables whose stations are these: 2 where the first record is the header of version 2, else 1.
abbrev pub version_of : List ℕ → ℕ
version_of stations = if is_ok (rows_under (tt {0}) limited_stations_header (table_records stations)) then 2 else 1

-- ---- tracks

abbrev pub tracks_header : Record
tracks_header = codes "track" ∷ codes "from" ∷ codes "to" ∷ []

unfoldable pub track_row : Net → ℕ → Record → Result Net TableFault
track_row net row fields = do
  form ← shaped Tracks row 3 fields
  name ← name_at Tracks row fields 0
  from ← name_at Tracks row fields 1
  to ← name_at Tracks row fields 2
  net_outcome Tracks row (track_refusal net name from to) (unwrap_or (after_track net name from to) net)

-- ---- types

abbrev pub types_header : Record
types_header = codes "type" ∷ []

unfoldable pub type_row : Net → ℕ → Record → Result Net TableFault
type_row net row fields = do
  form ← shaped Types row 1 fields
  name ← name_at Types row fields 0
  net_outcome Types row (type_refusal net name) (record net { types = net.types ++ name ∷ [] })

-- ---- running times

abbrev pub running_header : Record
running_header = codes "track" ∷ codes "type" ∷ codes "pass_pass" ∷ codes "pass_halt" ∷ codes "halt_pass" ∷ codes "halt_halt" ∷ []

unfoldable pub running_row : Net → ℕ → Record → Result Net TableFault
running_row net row fields = do
  form ← shaped Running row 6 fields
  track ← name_at Running row fields 0
  kind ← name_at Running row fields 1
  times ← four_at Running row fields 2
  net_outcome Running row (running_refusal net track kind times) (unwrap_or (after_running net track kind times) net)

-- ---- headways

abbrev pub headways_header : Record
headways_header = codes "track" ∷ codes "first" ∷ codes "second" ∷ codes "minutes" ∷ []

unfoldable pub headway_row : Net → ℕ → Record → Result Net TableFault
headway_row net row fields = do
  form ← shaped Headways row 4 fields
  track ← name_at Headways row fields 0
  first ← name_at Headways row fields 1
  second ← name_at Headways row fields 2
  minutes ← number_at Headways row fields 3
  net_outcome Headways row (headway_refusal net track first second minutes) (unwrap_or (after_headway net track first second minutes) net)

-- every two types that have running times on one track have a headway on it
abbrev pub is_complete : Net → Bool
is_complete net =
    list_all (λ a. list_all (λ b. not (nat_eq a.0.0 b.0.0) || is_some (lookup (same_triple (a.0.0, a.0.1, b.0.1)) net.headways)) net.running) net.running

-- the refusal of the whole table
abbrev pub whole_refusal : Net → Option NetRefusal
whole_refusal net = if is_complete net then None else Some MissingHeadway

-- the network of the headways that were read, or what their whole table is refused for
abbrev pub headways_outcome : Net → Result Net TableFault
headways_outcome net = net_outcome Headways 0 (whole_refusal net) net

-- ---- crossings

abbrev pub crossings_header : Record
crossings_header = codes "first_track" ∷ codes "second_track" ∷ codes "first" ∷ codes "second" ∷ codes "minutes" ∷ []

-- what a crossing adds, or what the network refuses in it
abbrev pub crossing_outcome : Net → ℕ → List ℕ → List ℕ → List ℕ → List ℕ → ℕ → Result Net TableFault
crossing_outcome net row first_track second_track first second minutes =
    net_outcome Crossings row (crossing_refusal net first_track second_track first second minutes)
    (unwrap_or (after_crossing net first_track second_track first second minutes) net)

unfoldable pub crossing_row : Net → ℕ → Record → Result Net TableFault
crossing_row net row fields = do
  form ← shaped Crossings row 5 fields
  first_track ← name_at Crossings row fields 0
  second_track ← name_at Crossings row fields 1
  first ← name_at Crossings row fields 2
  second ← name_at Crossings row fields 3
  minutes ← number_at Crossings row fields 4
  crossing_outcome net row first_track second_track first second minutes

-- whether a crossing of some is there among them in its other direction too
abbrev pub is_turned : List CrossingRow → CrossingRow → Bool
is_turned crossings row = is_some (lookup (same_quadruple (turned row.0)) crossings)

-- each crossing is there in its other direction too
abbrev pub has_both_ways : Net → Bool
has_both_ways net = list_all (is_turned net.crossings) net.crossings

-- whether the crossings of the first track and type of a crossing reach no more than 4,000 uses of other tracks
abbrev pub is_near : Net → CrossingRow → Bool
is_near net row = nat_le (reach_of net (track_id row.0.0) (type_id row.0.2)) 4000

-- no crossing is of a track and a type that reach too far
abbrev pub is_within_reach : Net → Bool
is_within_reach net = list_all (is_near net) net.crossings

-- the refusal of the whole table: a direction that is missing, then too far a reach
abbrev pub crossings_refusal : Net → Option NetRefusal
crossings_refusal net = first_of ((not (has_both_ways net), OneWayCrossing) ∷ (not (is_within_reach net), Reach) ∷ [])

-- the network of the crossings that were read, or what their whole table is refused for
abbrev pub crossings_outcome : Net → Result Net TableFault
crossings_outcome net = net_outcome Crossings 0 (crossings_refusal net) net

-- ---- the tables, in order

-- the bytes of the tables, those of the crossings in version 2
pub record Files : Type 0 where
  pub stations : List ℕ
  pub tracks : List ℕ
  pub types : List ℕ
  pub running : List ℕ
  pub headways : List ℕ
  pub crossings : Option (List ℕ)

-- the bytes of the files that are handed in
abbrev pub files_of : NetFiles → Files
files_of files = record {
  stations = files.stations.now;
  tracks = files.tracks.now;
  types = files.types.now;
  running = files.running.now;
  headways = files.headways.now;
  crossings = option_map (λ bytes. bytes.now) files.crossings;
}

-- crossings are there exactly where the stations are those of version 2
abbrev pub HasItsVersion : Files → Type 0
HasItsVersion files = is_some files.crossings ≡ nat_eq (version_of files.stations) 2

-- What the tables from the tracks to the headways add to a network of stations, or their first fault.
unfoldable pub after_stations : Net → Files → Result Net TableFault
after_stations net files = do
  b ← table_read track_row Tracks tracks_header net files.tracks
  c ← table_read type_row Types types_header b files.types
  d ← table_read running_row Running running_header c files.running
  e ← table_read headway_row Headways headways_header d files.headways
  headways_outcome e

-- the network of tables of version 1
unfoldable pub first_network_of : Files → Result Net TableFault
first_network_of files = do
  net ← table_read station_row Stations stations_header empty_net files.stations
  after_stations net files

-- the network of tables of version 2 with these crossings
unfoldable pub second_network_of : Files → List ℕ → Result Net TableFault
second_network_of files crossings = do
  stations ← table_read limited_station_row Stations limited_stations_header empty_net files.stations
  whole ← after_stations stations files
  net ← table_read crossing_row Crossings crossings_header whole crossings
  crossings_outcome net

-- The network that the tables mean, or their first fault.
abbrev pub network_of : Files → Result Net TableFault
network_of files = option_map_or (second_network_of files) files.crossings (first_network_of files)
