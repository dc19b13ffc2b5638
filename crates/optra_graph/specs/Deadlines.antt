-- The deadlines of stations: who leaves a station at its deadline or later comes too late to a target, the destination or the last stop.
use Rattle.std.specs.Prelude.{◌≡◌, ℕ, ◌+◌, ◌≤◌, nat_eq, Bool, ◌-◌, ◌<◌, min, max, List, length, slice_get, slice_index_or, Some, if◌then◌else◌}
use Rattle.std.specs.Option.{option_map}
use Rattle.optra_network.specs.Net.{Net, IsProper, minutes_by, times_of}
use Rattle.optra_network.specs.declared.StationId.{StationId}
use Rattle.optra_network.specs.declared.TrackId.{TrackId}
use Rattle.optra_bid.specs.Specs.{Path, IsWindow}
use Rattle.optra_bid.specs.declared.Stop.{Stop}
use Rattle.optra_walk.specs.declared.Leg.{Leg}
use Rattle.optra_walk.specs.declared.state.State.{State}
use Rattle.optra_graph.specs.declared.deadlines.Target.{Target}
use Rattle.optra_walk.specs.Moves.{Runs}

-- the destination within the arrival window
abbrev pub end_of : Path → Target
end_of path = record { station = path.destination; before = path.arrive.to + 1 }

-- a stop, within its span and so early that it may be left before its deadline
abbrev pub target_of : Stop → List ℕ → Target
target_of stop deadlines = record { station = stop.station; before = min (stop.arrive.to + 1) (slice_index_or deadlines stop.station.0 0 - stop.min_dwell) }

-- the first minute at which it is too late to arrive at a station: to the target one may come until its time is over
abbrev pub limit_of : Target → List ℕ → StationId → ℕ
limit_of target deadlines station =
    if nat_eq station.0 target.station.0 then max (slice_index_or deadlines station.0 0) target.before else slice_index_or deadlines station.0 0

-- who leaves by the track at the minute arrives too late at its head
abbrev pub IsTooLate : Net → Path → Target → List ℕ → ℕ → TrackId → Type 0
IsTooLate net path target deadlines minute track =
    (head : StationId) (a b : Bool) (run : ℕ)
    → option_map (λ t. t.head) (slice_get net.tracks track.0) ≡ Some head
    → option_map (minutes_by a b) (times_of net track path.kind) ≡ Some run
    → limit_of target deadlines head ≤ minute + run

-- from the deadline of its tail on the track leads to its head too late
abbrev pub IsLeftTooLate : Net → Path → Target → List ℕ → TrackId → Type 0
IsLeftTooLate net path target deadlines track =
    (station : StationId)
    → option_map (λ t. t.tail) (slice_get net.tracks track.0) ≡ Some station
    → IsTooLate net path target deadlines (slice_index_or deadlines station.0 0) track

-- a deadline for each station, at most the last minute of the arrival window
pub record AreBounded (net : Net) (path : Path) (target : Target) (deadlines : List ℕ) : Type 0 where
  pub proper : IsProper net
  pub count : length deadlines ≡ length net.stations
  pub arrive : IsWindow path.arrive
  pub before : target.before ≤ path.arrive.to + 1
  pub most : (k : ℕ) → slice_index_or deadlines k 0 ≤ path.arrive.to

-- each track that leaves a station leads to its head too late from the station's deadline on
pub record AreDeadlines (net : Net) (path : Path) (target : Target) (deadlines : List ℕ) : Type 0 where
  pub proper : IsProper net
  pub count : length deadlines ≡ length net.stations
  pub arrive : IsWindow path.arrive
  pub before : target.before ≤ path.arrive.to + 1
  pub most : (k : ℕ) → slice_index_or deadlines k 0 ≤ path.arrive.to
  pub holds : (track : TrackId) (station : StationId)
      → option_map (λ t. t.tail) (slice_get net.tracks track.0) ≡ Some station
      → IsTooLate net path target deadlines (slice_index_or deadlines station.0 0) track

-- a deadline for each station: who runs on with stops left departs before it
pub record AreStopping (net : Net) (path : Path) (stopping : List ℕ) : Type 0 where
  pub count : length stopping ≡ length net.stations
  pub holds : (s : State) (legs : List Leg) → s.done < length path.stops → Runs net path s legs → s.minute < slice_index_or stopping s.station.0 0
