-- The types on other tracks that have a crossing with a type on a track.
use Rattle.std.specs.Prelude.{◌≡◌, ℕ, ◌+◌, ◌*◌, ◌<◌, ◌&&◌, true, false, nat_eq, Bool, List, [], length, map, filter, Some, slice_get, unwrap_or, is_some, IfSome}
use Rattle.std.specs.List.Sorted.{IsNonDecreasingBy, IsPermutation}
use Rattle.std.specs.Map.{lookup}
use Rattle.optra_network.specs.Net.{Net, CrossingRow, same_quadruple, turned, times_of, track_id}
use Rattle.optra_network.specs.Headways.{type_id}
use Rattle.optra_network.specs.declared.TrackId.{TrackId}
use Rattle.optra_network.specs.declared.TypeId.{TypeId}
use Rattle.optra_network.specs.declared.Crosser.{Crosser}
use Rattle.optra_network.specs.declared.building.crossers.Placed.{Placed}

-- whether the second type of a crossing may use its track
abbrev pub may_cross : Net → CrossingRow → Bool
may_cross net row = is_some (times_of net (track_id row.0.1) (type_id row.0.3))

-- whether a crossing is one of a type on a track, by number, and its second type may use its track
abbrev pub is_across : Net → ℕ → ℕ → CrossingRow → Bool
is_across net t k row = nat_eq t row.0.0 && nat_eq k row.0.2 && may_cross net row

-- the other side of a crossing: its minutes before the own use are those of the other direction
abbrev pub crosser_of : List CrossingRow → CrossingRow → Crosser
crosser_of crossings row = record {
  track = track_id row.0.1;
  kind = type_id row.0.3;
  before = unwrap_or (lookup (same_quadruple (turned row.0)) crossings) 0;
  after = row.1;
}

-- the other sides of those of the rows that are crossings of a type on a track
abbrev pub crossers_in : Net → List CrossingRow → ℕ → ℕ → List Crosser
crossers_in net rows t k = map (crosser_of net.crossings) (filter (is_across net t k) rows)

-- the types that have a crossing with a type on a track, by number
abbrev pub crossers_at : Net → ℕ → ℕ → List Crosser
crossers_at net t k = crossers_in net net.crossings t k

-- the types on other tracks that have a crossing with a type on a track, in the order of the crossings
abbrev pub crossers_of : Net → TrackId → TypeId → List Crosser
crossers_of net track kind = crossers_at net track.0 kind.0

-- the second type of the crossing at a position may not use its track
abbrev pub IsFree : Net → ℕ → Type 0
IsFree net i = IfSome (slice_get net.crossings i) (λ row. may_cross net row ≡ false)

-- what is placed of the crossing at a position: its other side, by the place of its own side
pub record IsPlaced (net : Net) (i : ℕ) (placed : Placed) : Type 0 where
  pub row : CrossingRow
  pub at : slice_get net.crossings i ≡ Some row
  pub may : may_cross net row ≡ true
  pub place : placed.place ≡ row.0.0 * 16 + row.0.2
  pub is : placed.crosser ≡ crosser_of net.crossings row

-- a list of them in the order of their tracks
abbrev pub TracksRise : List Crosser → Type 0
TracksRise crossers = IsNonDecreasingBy (λ crosser. crosser.track.0) crossers

-- a list has the same crossers as another, in the order of their tracks
pub record IsSortedFrom (before after : List Crosser) : Type 0 where
  pub same : IsPermutation before after
  pub rise : TracksRise after

-- each list of some has the same crossers as that of others at its position, in the order of their tracks
pub record AreSortedFrom (before after : List (List Crosser)) : Type 0 where
  pub len : length after ≡ length before
  pub each : (n : ℕ) → n < length before → IsSortedFrom (unwrap_or (slice_get before n) []) (unwrap_or (slice_get after n) [])

-- lists by track and type have the types that have a crossing with them
pub record HoldsCrossers (net : Net) (tracks : ℕ) (lists : List (List Crosser)) : Type 0 where
  pub len : length lists ≡ tracks * 16
  pub each : (t k : ℕ) → t < tracks → k < 16 → IsSortedFrom (crossers_at net t k) (unwrap_or (slice_get lists (t * 16 + k)) [])
