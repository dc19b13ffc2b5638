-- Uses of other tracks by place: track, minute and type as one number, in the order of rows.
use Rattle.std.specs.Prelude.{◌≡◌, ◌≢◌, ℕ, ◌+◌, ◌-◌, ◌*◌, ◌/◌, ◌%◌, ◌<◌, ◌≤◌, nat_lt, min, Bool, List, length, map, filter, slice_index_or, sum_by, if◌then◌else◌}
use Rattle.std.specs.List.{range_with_len}
use Rattle.optra_network.specs.Net.{Net, track_id}
use Rattle.optra_network.specs.Headways.{type_id}
use Rattle.optra_network.specs.declared.Crosser.{Crosser}
use Rattle.optra_network.specs.declared.TrackUse.{TrackUse}
use Rattle.optra_cross.specs.declared.CRow.{CRow}
use Rattle.optra_cross.specs.Crosses.{is_row_of}

-- the use at a place: 2,880 minutes a track, and 16 types a minute
abbrev pub use_at : ℕ → TrackUse
use_at place = record { track = track_id (place / 46080); kind = type_id (place % 16); time = place % 46080 / 16 }

-- the row of two uses, the first one's fields first
abbrev pub row_from : TrackUse → TrackUse → CRow
row_from a b = record { first_track = a.track; first_at = a.time; first = a.kind; second_track = b.track; second_at = b.time; second = b.kind }

-- the row of a use and another one, the one on the lesser track first
abbrev pub row_with : TrackUse → TrackUse → CRow
row_with own other = if nat_lt other.track.0 own.track.0 then row_from other own else row_from own other

-- whether the use at a place is in a row with a use
abbrev pub is_crossed : Net → TrackUse → ℕ → Bool
is_crossed net own place = is_row_of net (row_with own (use_at place))

-- the places of the uses that are in a row with a use
abbrev pub crossed_places : Net → TrackUse → List ℕ
crossed_places net own = filter (is_crossed net own) (range_with_len 0 (length net.tracks * 46080))

-- the rows that a use uses, ascending
abbrev pub touched_rows : Net → TrackUse → List CRow
touched_rows net own = map (λ place. row_with own (use_at place)) (crossed_places net own)

-- ---- how many of them there are

-- the first minute at which a crosser's use breaks the crossing with a use at a time, and the first one after those
abbrev pub from_minute : ℕ → Crosser → ℕ
from_minute time crosser = time + 1 - crosser.before

abbrev pub until_minute : ℕ → Crosser → ℕ
until_minute time crosser = min (time + crosser.after) 2880

-- how many uses of a crosser break the crossing with a use at a time
abbrev pub count_all : ℕ → Crosser → ℕ
count_all time crosser = until_minute time crosser - from_minute time crosser

-- how many of them stand below a place: the crosser's uses stand 16 places apart, from its track's first place and its
-- type on
abbrev pub count_below : ℕ → ℕ → Crosser → ℕ
count_below time place crosser =
    min ((place + 15 - (crosser.track.0 * 46080 + crosser.kind.0)) / 16) (until_minute time crosser) - from_minute time crosser

-- how many uses of some crossers break a crossing with a use at a time
abbrev pub total : ℕ → List Crosser → ℕ
total time crossers = sum_by (count_all time) crossers

-- how many of them stand below a place
abbrev pub rank : ℕ → ℕ → List Crosser → ℕ
rank time place crossers = sum_by (count_below time place) crossers

-- a crosser's numbers are in their ranges
pub record IsCrosser (crosser : Crosser) : Type 0 where
  pub track : crosser.track.0 < 1000
  pub kind : crosser.kind.0 < 16
  pub before : crosser.before ≤ 120
  pub after : crosser.after ≤ 120

-- a place is that of the use at number k, from 0
pub record IsPlace (time : ℕ) (crossers : List Crosser) (k place : ℕ) : Type 0 where
  pub low : rank time place crossers ≤ k
  pub high : k < rank time (place + 1) crossers

-- a place of a track
pub record IsInTrack (track place : ℕ) : Type 0 where
  pub low : track * 46080 ≤ place
  pub high : place < track * 46080 + 46080

-- the crossers from a position up to another one are those of one track
pub record IsGroup (crossers : List Crosser) (start end : ℕ) : Type 0 where
  pub some : start < end
  pub within : end ≤ length crossers
  pub same : (i : ℕ) (d : Crosser) → start ≤ i → i < end → (slice_index_or crossers i d).track.0 ≡ (slice_index_or crossers start d).track.0
  pub next : (d : Crosser) → end < length crossers → (slice_index_or crossers end d).track.0 ≢ (slice_index_or crossers start d).track.0
