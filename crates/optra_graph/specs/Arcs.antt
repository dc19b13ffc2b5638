-- The arcs of a graph while it is made.
use Rattle.std.specs.Prelude.{◌≡◌, ℕ, zero, suc, ◌+◌, ◌-◌, ◌*◌, ◌<◌, ◌≤◌, ◌⊎◌, Bool, List, length, map, slice_index_or}
use Rattle.std.specs.declared.cmp.Ordering.TheVariants.{Less}
use Rattle.optra_network.specs.Net.{Net, out_tracks_of, IsFromTo}
use Rattle.optra_network.specs.declared.Track.{Track}
use Rattle.optra_bid.specs.Specs.{Path}
use Rattle.optra_dag.specs.declared.Arc.{Arc}
use Rattle.optra_dag.specs.Paths.{no_arc}
use Rattle.optra_walk.specs.declared.Leg.{Leg}
use Rattle.optra_walk.specs.Orders.{leg_cmp}
use Rattle.optra_graph.specs.declared.states.Layout.{Layout}
use Rattle.optra_graph.specs.declared.stepping.Step.{Step}
use Rattle.optra_graph.specs.Flags.{is_set, IsSet}
use Rattle.optra_walk.specs.Moves.{start_state}
use Rattle.optra_graph.specs.Nodes.{node_of}
use Rattle.optra_graph.specs.Places.{IsTimely, place_of, places_of, state_of, station_at}
use Rattle.optra_graph.specs.Steps.{IsStep}
use Rattle.optra_graph.specs.Timed.{no_leg}

-- the arc of a step from a node
abbrev pub arc_of : List Bool → ℕ → Step → Arc
arc_of flags from step = record { from = from; to = node_of flags step.to }

abbrev pub is_kept : List Bool → Step → Bool
is_kept flags step = is_set flags step.to

abbrev pub leg_of_step : Step → Leg
leg_of_step step = step.leg

-- the arc of a start
abbrev pub start_arc : Path → Layout → List Bool → ℕ → Arc
start_arc path layout flags minute = record { from = 0; to = node_of flags (place_of layout (start_state path minute)) }

-- the minute is one at which a walk may begin whose state is kept
pub record IsKeptStart (path : Path) (layout : Layout) (flags : List Bool) (minute : ℕ) : Type 0 where
  pub within : IsFromTo path.depart.from path.depart.to minute
  pub timely : IsTimely layout (start_state path minute)
  pub kept : IsSet flags (place_of layout (start_state path minute))

-- the start arcs of the minutes before one, ascending
pub record Starts (path : Path) (layout : Layout) (flags : List Bool) (before : ℕ) (arcs : List Arc) (minutes : List ℕ) : Type 0 where
  pub made : arcs ≡ map (start_arc path layout flags) minutes
  pub sound : (k : ℕ) → k < length minutes → IsKeptStart path layout flags (slice_index_or minutes k 0) × (slice_index_or minutes k 0 < before)
  pub rising : (j k : ℕ) → j < k → k < length minutes → slice_index_or minutes j 0 < slice_index_or minutes k 0
  pub whole : (m : ℕ) → m < before → IsKeptStart path layout flags m → (k : ℕ) × (k < length minutes) × (slice_index_or minutes k 0 ≡ m)

-- the step is one between kept places, from a place before one
pub record IsKeptStep (net : Net) (path : Path) (layout : Layout) (flags : List Bool) (place : ℕ) (step : Step) : Type 0 where
  pub within : place < places_of layout
  pub from : IsSet flags place
  pub is_step : IsStep net path layout (state_of layout place) step
  pub to : IsSet flags step.to

-- arc k has the leg and the nodes of the step
abbrev pub IsArcOf : List Bool → ℕ → List Arc → List Leg → ℕ → ℕ → Step → Type 0
IsArcOf flags starts arcs legs k place step =
    (slice_index_or arcs k no_arc ≡ arc_of flags (node_of flags place) step) × (slice_index_or legs (k - starts) no_leg ≡ step.leg)

-- after the start arcs the arcs of the kept steps from the places before one, ascending by place and by leg
pub record Emits (net : Net) (path : Path) (layout : Layout) (flags : List Bool) (before : ℕ) (first : List Arc) (arcs : List Arc) (legs : List Leg) : Type 0 where
  pub starts : (k : ℕ) → k < length first → slice_index_or arcs k no_arc ≡ slice_index_or first k no_arc
  pub count : length arcs ≡ length first + length legs
  pub sound : (k : ℕ) → length first ≤ k → k < length arcs
      → (place : ℕ) × (step : Step) × (place < before) × IsKeptStep net path layout flags place step × IsArcOf flags (length first) arcs legs k place step
  pub whole : (place : ℕ) (step : Step) → place < before → IsKeptStep net path layout flags place step
      → (k : ℕ) × (length first ≤ k) × (k < length arcs) × IsArcOf flags (length first) arcs legs k place step
  pub ordered : (j k : ℕ) → j < k → k < length arcs → length first ≤ j → (slice_index_or arcs j no_arc).from ≡ (slice_index_or arcs k no_arc).from
      → leg_cmp (slice_index_or legs (j - length first) no_leg) (slice_index_or legs (k - length first) no_leg) ≡ Less

-- how many tracks leave one of the first stations
abbrev pub out_before : List Track → ℕ → ℕ
out_before tracks zero = 0
out_before tracks (suc s) = out_before tracks s + length (out_tracks_of tracks (record { 0 = s }))

-- the stations of the first columns come before this one
abbrev pub stations_to : Layout → ℕ → ℕ
stations_to layout zero = 0
stations_to layout (suc column) = (station_at layout column).0 + 1

-- place p is that of a row and a column, and so far there are at most 63 arcs for each track in each row and in the columns so far
pub record IsFew (tracks : List Track) (layout : Layout) (place row column count : ℕ) : Type 0 where
  pub is : place ≡ row * layout.stations + column
  pub within : (column < layout.stations) ⊎ (column ≡ 0)
  pub few : count ≤ 63 * (row * length tracks + out_before tracks (stations_to layout column))
