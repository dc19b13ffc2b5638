-- The dense tables of a network: what stands at each place.
use Rattle.std.specs.Prelude.{◌≡◌, ℕ, ◌+◌, ◌*◌, ◌/◌, ◌%◌, ◌≤◌, ◌<◌, nat_lt, ◌&&◌, ◌||◌, not, Bool, List, length, map, filter, take, slice_get, slice_index, slice_range, Some, unwrap_or, is_some, if◌then◌else◌}
use Rattle.std.specs.List.{flat_map, range_with_len}
use Rattle.std.specs.Map.{lookup}
use Rattle.optra_network.specs.Net.{Net, IsBuilt, track_id, same_pair, same_triple, times_of, headway_of, leaves, out_tracks_of}
use Rattle.optra_network.specs.Headways.{type_id, hmin_or_0}
use Rattle.optra_network.specs.Partners.{partners_of}
use Rattle.optra_network.specs.Crossers.{HoldsCrossers}
use Rattle.optra_network.specs.declared.StationId.{StationId}
use Rattle.optra_network.specs.declared.TrackId.{TrackId}
use Rattle.optra_network.specs.declared.Track.{Track}
use Rattle.optra_network.specs.declared.Times.{Times}
use Rattle.optra_network.specs.declared.dense.Rows.{Rows}
use Rattle.optra_network.specs.declared.dense.Outgoing.{Outgoing}
use Rattle.optra_network.specs.declared.dense.Tables.{Tables}

-- what stands where a type may not use a track
abbrev pub no_times : Times
no_times = record { pass_pass = 0; pass_halt = 0; halt_pass = 0; halt_halt = 0 }

-- a key of running times has a place: one of so many tracks, one of sixteen types
abbrev pub IsPair : ℕ → ℕ × ℕ → Type 0
IsPair tracks key = (key.0 < tracks) × (key.1 < 16)

-- a key of headways has a place: one of so many tracks, two of sixteen types
abbrev pub IsTriple : ℕ → ℕ × ℕ × ℕ → Type 0
IsTriple tracks key = (key.0 < tracks) × (key.1 < 16) × (key.2 < 16)

-- the running times that rows give a type on a track, by number
abbrev pub found_times : List ((ℕ × ℕ) × Times) → ℕ → ℕ → Times
found_times rows t k = unwrap_or (lookup (same_pair (t, k)) rows) no_times

-- the headway that rows give, by number, and 0 where they give none
abbrev pub found_headway : List ((ℕ × ℕ × ℕ) × ℕ) → ℕ → ℕ → ℕ → ℕ
found_headway rows t a b = unwrap_or (lookup (same_triple (t, a, b)) rows) 0

-- the least headway, by number, and 0 where the type may not use the track
abbrev pub hmin_at : Net → ℕ → ℕ → ℕ
hmin_at net t k = hmin_or_0 net (track_id t) (type_id k)

module _ {X : Type 0} where
  -- a table by track and type has sixteen places for each track
  pub record HoldsPairs (f : ℕ → ℕ → X) (tracks : ℕ) (table : List X) : Type 0 where
    pub len : length table ≡ tracks * 16
    pub each : (t k : ℕ) → t < tracks → k < 16 → slice_get table (t * 16 + k) ≡ Some (f t k)

  -- a table by track, first and second type has 256 places for each track
  pub record HoldsTriples (f : ℕ → ℕ → ℕ → X) (tracks : ℕ) (table : List X) : Type 0 where
    pub len : length table ≡ tracks * 256
    pub each : (t a b : ℕ) → t < tracks → a < 16 → b < 16 → slice_get table ((t * 16 + a) * 16 + b) ≡ Some (f t a b)

  -- what a table by track and type has at them, and a value that stands for none at any others
  abbrev pub at_pair : X → List X → ℕ → ℕ → X
  at_pair none table t k = if nat_lt k 16 then unwrap_or (slice_get table (t * 16 + k)) none else none

  -- the same by track, first and second type
  abbrev pub at_triple : X → List X → ℕ → ℕ → ℕ → X
  at_triple none table t a b = if nat_lt a 16 && nat_lt b 16 then unwrap_or (slice_get table ((t * 16 + a) * 16 + b)) none else none

-- the tables of running times and headways, of a network that a builder keeps
pub record AreRows (net : Net) (rows : Rows) : Type 0 where
  pub built : IsBuilt net
  pub running : HoldsPairs (found_times net.running) (length net.tracks) rows.running.items
  pub headways : HoldsTriples (found_headway net.headways) (length net.tracks) rows.headways.items

-- whether two types that may both use a track have a headway on it, by number
abbrev pub has_headway : Net → ℕ → ℕ → ℕ → Bool
has_headway net t a b =
    not (is_some (times_of net (track_id t) (type_id a))) || not (is_some (times_of net (track_id t) (type_id b))) || is_some (headway_of net (track_id t) (type_id a) (type_id b))

-- for each station, the tracks among the first n that leave it
pub record HoldsOut (tracks : List Track) (n stations : ℕ) (lists : List (List TrackId)) : Type 0 where
  pub len : length lists ≡ stations
  pub each : (s : StationId) → s.0 < stations → slice_get lists s.0 ≡ Some (filter (leaves tracks s) (map track_id (range_with_len 0 n)))

-- a station has a start, and the next start isn't before it
pub record HasRange (out : Outgoing) (s : ℕ) : Type 0 where
  pub started : s + 1 < length out.starts.items
  pub ordered : slice_index out.starts.items s ≤ slice_index out.starts.items (s + 1)
  pub within : slice_index out.starts.items (s + 1) ≤ length out.tracks.items

-- what stands from a station's start up to the next start
abbrev pub range_of : Outgoing → ℕ → List TrackId
range_of out s = slice_range out.tracks.items (slice_index out.starts.items s) (slice_index out.starts.items (s + 1))

-- the tracks that leave a station
pub record IsOut (tracks : List Track) (out : Outgoing) (s : StationId) : Type 0 where
  pub range : HasRange out s.0
  pub are : range_of out s.0 ≡ out_tracks_of tracks s

-- the tracks that leave each of so many stations
abbrev pub AreOut : List Track → ℕ → Outgoing → Type 0
AreOut tracks stations out = (s : StationId) → s.0 < stations → IsOut tracks out s

-- lists in one array, with a start for each of them and one for the end
pub record AreJoined (lists : List (List TrackId)) (out : Outgoing) : Type 0 where
  pub tracks : out.tracks.items ≡ flat_map (λ list. list) lists
  pub len : length out.starts.items ≡ length lists + 1
  pub starts : (i : ℕ) → i ≤ length lists → slice_index out.starts.items i ≡ length (flat_map (λ list. list) (take i lists))

-- by track and type, sixteen for each track
abbrev pub least_at : Net → ℕ → ℕ
least_at net n = hmin_at net (n / 16) (n % 16)

-- all tables of a network
pub record AreTables (net : Net) (tables : Tables) : Type 0 where
  pub rows : AreRows net tables.rows
  pub leasts : HoldsPairs (hmin_at net) (length net.tracks) tables.leasts.items
  pub out : AreOut net.tracks (length net.stations) tables.out
  pub partners : HoldsPairs (λ t k. partners_of net (track_id t) (type_id k)) (length net.tracks) (map (λ list. list.items) tables.partners.items)
  pub crossers : HoldsCrossers net (length net.tracks) (map (λ list. list.items) tables.crossers.items)
