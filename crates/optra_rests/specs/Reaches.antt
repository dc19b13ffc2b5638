-- How many minutes trains take at least between stations, and which states may come into a walk.
use Rattle.std.specs.Prelude.{◌≡◌, ℕ, ◌+◌, ◌<◌, ◌≤◌, ◌-◌, Bool, false, true, List, [], length, map, slice_get, slice_index, slice_index_or, Option, None, Some, if◌then◌else◌}
use Rattle.optra_network.specs.Net.{Net, times_of, minutes_by, track_id}
use Rattle.optra_network.specs.declared.StationId.{StationId}
use Rattle.optra_network.specs.declared.TrackId.{TrackId}
use Rattle.optra_network.specs.declared.TypeId.{TypeId}
use Rattle.optra_network.specs.declared.Track.{Track}
use Rattle.optra_network.specs.declared.Times.{Times}
use Rattle.optra_bid.specs.Specs.{Path}
use Rattle.optra_bid.specs.declared.Stop.{Stop}
use Rattle.optra_walk.specs.declared.state.State.{State}
use Rattle.optra_rests.specs.declared.reach.Reach.{Reach}

-- the end at which a track begins, and the other one; going back it begins at its head
abbrev pub near_of : Bool → Track → StationId
near_of back track = if back then track.head else track.tail

abbrev pub far_of : Bool → Track → StationId
far_of back track = if back then track.tail else track.head

-- at most the minutes of the type on the track, by whatever modes; none where the type may not use it
abbrev pub IsQuickest : Net → TrackId → TypeId → Option ℕ → Type 0
IsQuickest net track kind None = times_of net track kind ≡ None
IsQuickest net track kind (Some minutes) = (times : Times) (a b : Bool) → times_of net track kind ≡ Some times → minutes ≤ minutes_by a b times

-- the far end of the track has no more minutes than the near end and those of the type on the track
abbrev pub IsLeastAlong : Net → TypeId → Bool → List ℕ → TrackId → Type 0
IsLeastAlong net kind back least n =
    (t : Track) (times : Times) (a b : Bool) → slice_get net.tracks n.0 ≡ Some t → times_of net n kind ≡ Some times
    → slice_index least (far_of back t).0 ≤ slice_index least (near_of back t).0 + minutes_by a b times

-- no more minutes at each station than so many and those that trains of the type take from one station, or back to it
pub record AreLeast (net : Net) (kind : TypeId) (back : Bool) (at : StationId) (start : ℕ) (least : List ℕ) : Type 0 where
  pub len : length least ≡ length net.stations
  pub first : slice_index least at.0 ≤ start
  pub each : (n : ℕ) → n < length net.tracks → IsLeastAlong net kind back least (track_id n)

-- a train may come to the station, and still end its walk in time
abbrev pub IsNear : Path → List ℕ → List ℕ → ℕ → Type 0
IsNear path from on station = path.depart.from + slice_index from station + slice_index on station ≤ path.arrive.to

-- so many of the first stations, without some of the last ones, all of which are far
pub record IsWithoutFar (path : Path) (from on : List ℕ) (count left : ℕ) : Type 0 where
  pub fewer : left ≤ count
  pub far : (station : ℕ) → left ≤ station → station < count → IsNear path from on station → ⊥

-- for each number of first stations, how many are left without the last ones that are far
pub record SkipsFar (path : Path) (from on skips : List ℕ) : Type 0 where
  pub len : length skips ≡ length from + 1
  pub each : (count : ℕ) → count ≤ length from → IsWithoutFar path from on count (slice_index skips count)

-- the end of a walk from which minutes are counted, and the place of the stop behind so many: going back both are counted from
-- the destination
abbrev pub first_of : Bool → Path → StationId
first_of back path = if back then path.destination else path.origin

abbrev pub place_after : Bool → ℕ → ℕ → ℕ
place_after back count passed = if back then count - 1 - passed else passed

-- for each number of stops up to one, no more minutes between an end of a walk and each station than trains take by way of so many
-- stops next to that end: they go from the end by way of the others to the last of these, halt there, and go on; or all of it
-- back
pub record AreLevels (net : Net) (path : Path) (back : Bool) (levels : List (List ℕ)) (most : ℕ) : Type 0 where
  pub count : length levels ≡ most + 1
  pub len : (passed : ℕ) → passed ≤ most → length (slice_index_or levels passed []) ≡ length net.stations
  pub each : (passed : ℕ) → passed ≤ most → (n : ℕ) → n < length net.tracks
      → IsLeastAlong net path.kind back (slice_index_or levels passed []) (track_id n)
  pub first : slice_index (slice_index_or levels 0 []) (first_of back path).0 ≤ 0
  pub halt : (passed : ℕ) (stop : Stop) → slice_get path.stops (place_after back (length path.stops) passed) ≡ Some stop → passed + 1 ≤ most
      → slice_index (slice_index_or levels (passed + 1) []) stop.station.0
      ≤ stop.min_dwell + slice_index (slice_index_or levels passed []) stop.station.0

-- the minutes from each station on to the destination, by the number of stops that are left
abbrev pub levels_of : Reach → List (List ℕ)
levels_of reach = map (λ level. level.items) reach.ahead.items

-- the minutes from the origin to each station, by the number of stops that are done
abbrev pub behind_of : Reach → List (List ℕ)
behind_of reach = map (λ level. level.items) reach.behind.items

-- the minutes from the origin to each station, and from there on to the destination, by way of no stop
abbrev pub from_origin : Reach → List ℕ
from_origin reach = slice_index_or (behind_of reach) 0 []

abbrev pub to_destination : Reach → List ℕ
to_destination reach = slice_index_or (levels_of reach) 0 []

-- there was time for a walk to come to the state by way of the stops that it has done
abbrev pub WasTime : Path → Reach → State → Type 0
WasTime path reach s =
    path.depart.from + slice_index (slice_index_or (behind_of reach) s.done []) s.station.0 ≤ s.minute

-- a walk may still end in time that has the stops left that the state has
abbrev pub IsAhead : Path → Reach → State → Type 0
IsAhead path reach s = s.minute + slice_index (slice_index_or (levels_of reach) (length path.stops - s.done) []) s.station.0 ≤ path.arrive.to

-- from the origin of the path, and on to its destination; and which stations are far
pub record IsReach (net : Net) (path : Path) (reach : Reach) : Type 0 where
  pub far : SkipsFar path (from_origin reach) (to_destination reach) reach.skips.items
  pub ahead : AreLevels net path true (levels_of reach) (length path.stops)
  pub behind : AreLevels net path false (behind_of reach) (length path.stops)

-- a train may be there by then
abbrev pub IsReached : Path → Reach → State → Type 0
IsReached path reach s = path.depart.from + slice_index (from_origin reach) s.station.0 ≤ s.minute

-- and it may still end its walk in time
abbrev pub IsInTime : Path → Reach → State → Type 0
IsInTime path reach s = s.minute + slice_index (to_destination reach) s.station.0 ≤ path.arrive.to
