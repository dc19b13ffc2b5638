-- The columns of stations: each station that a walk may leave in time has one.
use Rattle.std.specs.Prelude.{◌≡◌, ℕ, ◌<◌, ◌≤◌, length, slice_index_or}
use Rattle.optra_network.specs.Net.{Net}
use Rattle.optra_network.specs.declared.StationId.{StationId}
use Rattle.optra_bid.specs.Specs.{Path}
use Rattle.optra_graph.specs.declared.columns.Columns.{Columns}
use Rattle.optra_graph.specs.Deadlines.{AreDeadlines, AreStopping, end_of}

abbrev pub no_station : StationId
no_station = record { 0 = 0 }

-- the first minute at which it is too late to leave a station
abbrev pub deadline_in : Columns → StationId → ℕ
deadline_in columns station = slice_index_or columns.deadlines.items station.0 0

-- the same where stops are left
abbrev pub stopping_in : Columns → StationId → ℕ
stopping_in columns station = slice_index_or columns.stopping.items station.0 0

-- the station of a column
abbrev pub station_in : Columns → ℕ → StationId
station_in columns column = slice_index_or columns.stations.items column no_station

-- the column of a station that has one
abbrev pub column_in : Columns → StationId → ℕ
column_in columns station = slice_index_or columns.numbers.items station.0 0

-- of the stations before one those that may be left at the minute have a column each, in their order
pub record AreColumnsTo (minute before : ℕ) (columns : Columns) : Type 0 where
  pub count : length columns.numbers.items ≡ before
  pub few : length columns.stations.items ≤ before
  pub stations : (column : ℕ) → column < length columns.stations.items → (station_in columns column).0 < before
  pub numbers : (column : ℕ) → column < length columns.stations.items → column_in columns (station_in columns column) ≡ column
  pub rising : (b c : ℕ) → b < c → c < length columns.stations.items → (station_in columns b).0 < (station_in columns c).0
  pub within : (station : StationId) → station.0 < before → minute < deadline_in columns station → column_in columns station < length columns.stations.items
  pub back : (station : StationId) → station.0 < before → minute < deadline_in columns station → station_in columns (column_in columns station) ≡ station

-- the deadlines, and the columns of the stations that may be left at the first departure
pub record AreColumns (net : Net) (path : Path) (columns : Columns) : Type 0 where
  pub deadlines : AreDeadlines net path (end_of path) columns.deadlines.items
  pub stopping : AreStopping net path columns.stopping.items
  pub listed : AreColumnsTo path.depart.from (length net.stations) columns
