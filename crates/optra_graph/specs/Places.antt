-- The places of states: minute by minute, then by stops done and by mode, then by the column of the station.
use Rattle.std.specs.Prelude.{◌≡◌, ℕ, ◌+◌, ◌-◌, ◌*◌, ◌/◌, ◌%◌, ◌<◌, ◌≤◌, Bool, true, false, nat_eq, nat_lt, min, length, if◌then◌else◌}
use Rattle.optra_network.specs.Net.{Net}
use Rattle.optra_network.specs.declared.StationId.{StationId}
use Rattle.optra_bid.specs.Specs.{Path}
use Rattle.optra_walk.specs.declared.state.State.{State}
use Rattle.optra_graph.specs.declared.states.Layout.{Layout}
use Rattle.optra_graph.specs.Columns.{column_in, deadline_in, stopping_in, station_in}

-- the layout of a path: its minutes are those from the first departure on and before the last arrival
pub record IsLayout (net : Net) (path : Path) (layout : Layout) : Type 0 where
  pub first : layout.first ≡ path.depart.from
  pub minutes : layout.minutes ≡ path.arrive.to - path.depart.from
  pub slots : layout.slots ≡ 2 * (length path.stops + 1)
  pub stations : layout.stations ≡ length layout.columns.now.stations.items

-- the sizes that every layout has
pub record IsSmall (layout : Layout) : Type 0 where
  pub first : layout.first ≤ 2879
  pub minutes : layout.minutes ≤ 2879
  pub end : layout.first + layout.minutes ≤ 2879
  pub slots : layout.slots ≤ 18
  pub stations : layout.stations ≤ 300

abbrev pub mode_of : Bool → ℕ
mode_of true = 1
mode_of false = 0

-- the first minute at which it is too late to leave a station, after so many stops
abbrev pub deadline_of : Layout → ℕ → StationId → ℕ
deadline_of layout done station =
    if nat_lt (done * 2 + 2) layout.slots then min (deadline_in layout.columns.now station) (stopping_in layout.columns.now station) else deadline_in layout.columns.now station

-- the station of a column
abbrev pub station_at : Layout → ℕ → StationId
station_at layout column = station_in layout.columns.now column

-- the column of a station that has one
abbrev pub column_at : Layout → StationId → ℕ
column_at layout station = column_in layout.columns.now station

-- the station is that of its column
pub record HasColumn (layout : Layout) (station : StationId) : Type 0 where
  pub there : station.0 < length layout.columns.now.numbers.items
  pub within : column_at layout station < layout.stations
  pub back : station_at layout (column_at layout station) ≡ station

-- each column is that of its station
abbrev pub HasColumns : Layout → Type 0
HasColumns layout =
    (column : ℕ) → column < layout.stations
    → HasColumn layout (station_at layout column) × (column_at layout (station_at layout column) ≡ column)

-- the number of the minute, the stops done and the mode
abbrev pub slot_of : Layout → State → ℕ
slot_of layout s = (s.minute - layout.first) * layout.slots + (s.done * 2 + mode_of s.halted)

abbrev pub place_of : Layout → State → ℕ
place_of layout s = slot_of layout s * layout.stations + column_at layout s.station

-- how many places there are; this number itself stands for the end of a walk
abbrev pub places_of : Layout → ℕ
places_of layout = layout.minutes * layout.slots * layout.stations

-- the state has a place
pub record IsPlaced (layout : Layout) (s : State) : Type 0 where
  pub early : layout.first ≤ s.minute
  pub late : s.minute < layout.first + layout.minutes
  pub done : s.done * 2 + mode_of s.halted < layout.slots
  pub station : HasColumn layout s.station

-- the state has a place, and leaves before the deadline
pub record IsTimely (layout : Layout) (s : State) : Type 0 where
  pub placed : IsPlaced layout s
  pub timely : s.minute < deadline_of layout s.done s.station

-- the state at a place
abbrev pub state_of : Layout → ℕ → State
state_of layout place = record {
  station = station_at layout (place % layout.stations);
  minute = layout.first + place / layout.stations / layout.slots;
  halted = nat_eq (place / layout.stations % layout.slots % 2) 1;
  done = place / layout.stations % layout.slots / 2;
}
