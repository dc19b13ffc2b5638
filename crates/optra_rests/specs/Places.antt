-- The places of states: minute by minute, then by station, then by stops done and by mode.
use Rattle.std.specs.Prelude.{◌≡◌, ℕ, ◌+◌, ◌-◌, ◌*◌, ◌/◌, ◌%◌, ◌<◌, ◌≤◌, Bool, true, false, nat_eq, length}
use Rattle.optra_network.specs.Net.{Net}
use Rattle.optra_bid.specs.Specs.{Path}
use Rattle.optra_walk.specs.declared.state.State.{State}
use Rattle.optra_rests.specs.declared.states.Layout.{Layout}

-- the layout of a path: its minutes are those from the first departure on and before the last arrival
pub record IsLayout (net : Net) (path : Path) (layout : Layout) : Type 0 where
  pub first : layout.first ≡ path.depart.from
  pub minutes : layout.minutes ≡ path.arrive.to - path.depart.from
  pub slots : layout.slots ≡ 2 * (length path.stops + 1)
  pub stations : layout.stations ≡ length net.stations

-- the sizes that every layout has
pub record IsSmall (layout : Layout) : Type 0 where
  pub first : layout.first ≤ 2879
  pub minutes : layout.minutes ≤ 2879
  pub end : layout.first + layout.minutes ≤ 2879
  pub slots : layout.slots ≤ 18
  pub stations : layout.stations ≤ 300

abbrev pub mode_of : Bool → ℕ
mode_of true = 1
mode_of false = 0

-- the number of the stops done and the mode
abbrev pub slot_of : State → ℕ
slot_of s = s.done * 2 + mode_of s.halted

-- where the places of a station in a minute begin, by the numbers of both
abbrev pub spot_at : Layout → ℕ → ℕ → ℕ
spot_at layout minute station = (minute * layout.stations + station) * layout.slots

abbrev pub place_of : Layout → State → ℕ
place_of layout s = spot_at layout (s.minute - layout.first) s.station.0 + slot_of s

-- how many places there are
abbrev pub places_of : Layout → ℕ
places_of layout = layout.minutes * layout.stations * layout.slots

-- the state has a place
pub record IsPlaced (layout : Layout) (s : State) : Type 0 where
  pub early : layout.first ≤ s.minute
  pub late : s.minute < layout.first + layout.minutes
  pub done : slot_of s < layout.slots
  pub station : s.station.0 < layout.stations

-- the state at a place
abbrev pub state_of : Layout → ℕ → State
state_of layout place = record {
  station = record { 0 = place / layout.slots % layout.stations };
  minute = layout.first + place / layout.slots / layout.stations;
  halted = nat_eq (place % layout.slots % 2) 1;
  done = place % layout.slots / 2;
}
