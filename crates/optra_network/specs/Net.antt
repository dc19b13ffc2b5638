-- A railway network: what it is made of, how it is looked up, and what every network keeps.
use Rattle.std.specs.Prelude.{◌≡◌, ◌≢◌, ℕ, ◌+◌, ◌-◌, ◌≤◌, ◌<◌, ◌&&◌, false, nat_eq, Bool, List, [], length, map, filter, sum_by, All, Option, IsSome, unwrap_or, slice_get, if◌then◌else◌}
use Rattle.std.specs.List.{range_with_len}
use Rattle.std.specs.Option.{option_map_or}
use Rattle.std.specs.Map.{keys_of, lookup}
use Rattle.optra_network.specs.Names.{AllDiffer, AreNames}
use Rattle.optra_network.specs.declared.StationId.{StationId}
use Rattle.optra_network.specs.declared.TrackId.{TrackId}
use Rattle.optra_network.specs.declared.TypeId.{TypeId}
use Rattle.optra_network.specs.declared.Track.{Track}
use Rattle.optra_network.specs.declared.Times.{Times}

-- a crossing's key: the first track, the second track, the type on the first one and the type on the second one
abbrev pub CrossingKey : Type 0
CrossingKey = ℕ × ℕ × ℕ × ℕ

-- a crossing with its minutes
abbrev pub CrossingRow : Type 0
CrossingRow = CrossingKey × ℕ

-- Names in first-seen order; the ends of the tracks; the running times of a track and a type;
-- the headways of a track, a first type and a second type; the crossings of two tracks and two types; the limits of
-- stations, of those that have one. No key stands twice.
pub record Net : Type 0 where
  pub stations : List (List ℕ)
  pub track_names : List (List ℕ)
  pub tracks : List Track
  pub types : List (List ℕ)
  pub running : List ((ℕ × ℕ) × Times)
  pub headways : List ((ℕ × ℕ × ℕ) × ℕ)
  pub crossings : List CrossingRow
  pub limits : List (ℕ × ℕ)

-- the network of nothing
abbrev pub empty_net : Net
empty_net = record { stations = []; track_names = []; tracks = []; types = []; running = []; headways = []; crossings = []; limits = [] }

-- whether two keys of running times are the same
abbrev pub same_pair : ℕ × ℕ → ℕ × ℕ → Bool
same_pair a b = nat_eq a.0 b.0 && nat_eq a.1 b.1

-- whether two keys of headways are the same
abbrev pub same_triple : ℕ × ℕ × ℕ → ℕ × ℕ × ℕ → Bool
same_triple a b = nat_eq a.0 b.0 && nat_eq a.1 b.1 && nat_eq a.2 b.2

-- whether two keys of crossings are the same
abbrev pub same_quadruple : CrossingKey → CrossingKey → Bool
same_quadruple a b = nat_eq a.0 b.0 && nat_eq a.1 b.1 && nat_eq a.2 b.2 && nat_eq a.3 b.3

-- the running times of a type on a track
abbrev pub times_of : Net → TrackId → TypeId → Option Times
times_of net track kind = lookup (same_pair (track.0, kind.0)) net.running

-- a type may use a track where it has running times there
abbrev pub MayUse : Net → TrackId → TypeId → Type 0
MayUse net track kind = IsSome (times_of net track kind)

-- the headway between a first type and a second one on a track
abbrev pub headway_of : Net → TrackId → TypeId → TypeId → Option ℕ
headway_of net track first second = lookup (same_triple (track.0, first.0, second.0)) net.headways

-- the minutes that a train of the second type on the second track keeps after one of the first type on the first track
abbrev pub crossing_of : Net → TrackId → TrackId → TypeId → TypeId → Option ℕ
crossing_of net a b first second = lookup (same_quadruple (a.0, b.0, first.0, second.0)) net.crossings

-- the greatest number of trains that may stand in the station at once, and 0 where it has no limit
abbrev pub halt_max_of : Net → StationId → ℕ
halt_max_of net s = unwrap_or (lookup (nat_eq s.0) net.limits) 0

-- the minutes by the modes at the two ends
abbrev pub minutes_by : Bool → Bool → Times → ℕ
minutes_by from_halt to_halt times =
    if from_halt then (if to_halt then times.halt_halt else times.halt_pass) else (if to_halt then times.pass_halt else times.pass_pass)

-- whether the track leaves the station
abbrev pub leaves : List Track → StationId → TrackId → Bool
leaves tracks station track = option_map_or (λ t. nat_eq t.tail.0 station.0) (slice_get tracks track.0) false

-- the track at a position
abbrev pub track_id : ℕ → TrackId
track_id n = record { 0 = n }

-- the tracks that leave a station, by track position
abbrev pub out_tracks_of : List Track → StationId → List TrackId
out_tracks_of tracks station = filter (leaves tracks station) (map track_id (range_with_len 0 (length tracks)))

-- a number of a range, both ends included
abbrev pub IsFromTo : ℕ → ℕ → ℕ → Type 0
IsFromTo low high n = (low ≤ n) × (n ≤ high)

-- running times are 1 to 240 minutes
pub record AreTimes (times : Times) : Type 0 where
  pub pass_pass : IsFromTo 1 240 times.pass_pass
  pub pass_halt : IsFromTo 1 240 times.pass_halt
  pub halt_pass : IsFromTo 1 240 times.halt_pass
  pub halt_halt : IsFromTo 1 240 times.halt_halt

-- a station's id is one of the positions
abbrev pub IsStation : Net → StationId → Type 0
IsStation net s = s.0 < length net.stations

-- a track's id is one of the positions
abbrev pub IsTrack : Net → TrackId → Type 0
IsTrack net t = t.0 < length net.tracks

-- a type's id is one of the positions
abbrev pub IsKind : Net → TypeId → Type 0
IsKind net k = k.0 < length net.types

-- the ends of a track are two of so many stations
abbrev pub AreEnds : ℕ → Track → Type 0
AreEnds stations t = (t.tail.0 < stations) × (t.head.0 < stations) × (t.tail ≢ t.head)

-- running times of one of so many tracks and one of so many types
abbrev pub IsRunningRow : ℕ → ℕ → (ℕ × ℕ) × Times → Type 0
IsRunningRow tracks types row = (row.0.0 < tracks) × (row.0.1 < types) × AreTimes row.1

-- a headway of one of so many tracks and two of so many types
abbrev pub IsHeadwayRow : ℕ → ℕ → (ℕ × ℕ × ℕ) × ℕ → Type 0
IsHeadwayRow tracks types row = (row.0.0 < tracks) × (row.0.1 < types) × (row.0.2 < types) × IsFromTo 1 120 row.1

-- a crossing of two different ones of so many tracks and of two of so many types
pub record IsCrossingRow (tracks types : ℕ) (row : CrossingRow) : Type 0 where
  pub first_track : row.0.0 < tracks
  pub second_track : row.0.1 < tracks
  pub first : row.0.2 < types
  pub second : row.0.3 < types
  pub apart : row.0.0 ≢ row.0.1
  pub minutes : IsFromTo 1 120 row.1

-- a limit of one of so many stations
abbrev pub IsLimitRow : ℕ → ℕ × ℕ → Type 0
IsLimitRow stations row = (row.0 < stations) × IsFromTo 1 1000 row.1

-- how many stations, tracks and types there may be
pub record AreCounts (stations tracks types : ℕ) : Type 0 where
  pub few_stations : stations ≤ 300
  pub few_tracks : tracks ≤ 1000
  pub few_types : types ≤ 16

-- in each name space all names differ
pub record AreNameSpaces (stations tracks types : List (List ℕ)) : Type 0 where
  pub station_names : AreNames stations
  pub names_of_tracks : AreNames tracks
  pub type_names : AreNames types

-- the rows of a finite map: each of them is proper, and no key stands twice
pub record AreRowsOf {K V : Type 0} (P : K × V → Type 0) (rows : List (K × V)) : Type 0 where
  pub each : All P rows
  pub once : AllDiffer (keys_of rows)

-- what a builder keeps: the limits, the names, a name and two ends for each track, and the rows of each table
pub record IsBuilt (net : Net) : Type 0 where
  pub counts : AreCounts (length net.stations) (length net.tracks) (length net.types)
  pub names : AreNameSpaces net.stations net.track_names net.types
  pub named : length net.track_names ≡ length net.tracks
  pub ends : All (AreEnds (length net.stations)) net.tracks
  pub running : AreRowsOf (IsRunningRow (length net.tracks) (length net.types)) net.running
  pub headways : AreRowsOf (IsHeadwayRow (length net.tracks) (length net.types)) net.headways
  pub crossings : AreRowsOf (IsCrossingRow (length net.tracks) (length net.types)) net.crossings
  pub limits : AreRowsOf (IsLimitRow (length net.stations)) net.limits

-- every two types that may both use a track have a headway on it
abbrev pub HasAllHeadways : Net → Type 0
HasAllHeadways net = (t : TrackId) (a b : TypeId) → MayUse net t a → MayUse net t b → IsSome (headway_of net t a b)

-- each crossing is there in its other direction too
abbrev pub HasBothWays : Net → Type 0
HasBothWays net = (a b : TrackId) (c d : TypeId) → IsSome (crossing_of net a b c d) → IsSome (crossing_of net b a d c)

-- the key of the other direction
abbrev pub turned : CrossingKey → CrossingKey
turned key = (key.1, key.0, key.3, key.2)

-- so many minutes of departure on the second track break a crossing with one departure on the first track: those that come
-- less than its minutes later, and less than the minutes of its other direction earlier
abbrev pub span_of : List CrossingRow → CrossingRow → ℕ
span_of crossings row = row.1 + unwrap_or (lookup (same_quadruple (turned row.0)) crossings) 0 - 1

-- what a crossing adds to the reach of a track and a type, by number: its span, where its first use is of these
abbrev pub reach_by : List CrossingRow → ℕ → ℕ → CrossingRow → ℕ
reach_by crossings track kind row = if nat_eq track row.0.0 && nat_eq kind row.0.2 then span_of crossings row else 0

-- so many uses of other tracks break a crossing with one use of the type on the track
abbrev pub reach_of : Net → TrackId → TypeId → ℕ
reach_of net track kind = sum_by (reach_by net.crossings track.0 kind.0) net.crossings

-- no use has too many others across its track
abbrev pub IsWithinReach : Net → Type 0
IsWithinReach net = (track : TrackId) (kind : TypeId) → reach_of net track kind ≤ 4000

-- what every network keeps: what a builder keeps, complete headways, both directions of each crossing, and its reach
pub record IsProper (net : Net) : Type 0 where
  pub built : IsBuilt net
  pub complete : HasAllHeadways net
  pub both_ways : HasBothWays net
  pub within_reach : IsWithinReach net
