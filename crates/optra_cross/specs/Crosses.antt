-- Rows of crossings: which there are, which legs use them, and the rule that they state.
use Rattle.std.specs.Prelude.{◌≡◌, ◌≢◌, ℕ, ◌+◌, ◌<◌, ◌≤◌, ◌⊎◌, ◌↔◌, ◌&&◌, ◌||◌, nat_eq, nat_lt, nat_le, Bool, List, map, Some, is_some, slice_get, unwrap_or, if◌then◌else◌}
use Rattle.optra_network.specs.Net.{Net, MayUse, crossing_of, times_of}
use Rattle.optra_network.specs.declared.TrackUse.{TrackUse}
use Rattle.optra_walk.specs.Choices.{KeepsHeadways}
use Rattle.optra_walk.specs.Families.{Entry, Rows, FitRows, use_of_entry}
use Rattle.optra_walk.specs.Legs.{use_of}
use Rattle.optra_walk.specs.Rules.{KeepsCrossing, KeepsCrossings}
use Rattle.optra_rows.specs.Eithers.{both_rows}
use Rattle.optra_rows.specs.Headways.{headway_rows}
use Rattle.optra_cross.specs.declared.CRow.{CRow}

-- ---- rows

-- the two uses of a row
abbrev pub first_use : CRow → TrackUse
first_use row = record { track = row.first_track; kind = row.first; time = row.first_at }

abbrev pub second_use : CRow → TrackUse
second_use row = record { track = row.second_track; kind = row.second; time = row.second_at }

-- a use can be there: its type may use its track, and it is of the two days
pub record IsPossible (net : Net) (use_ : TrackUse) : Type 0 where
  pub may : MayUse net use_.track use_.kind
  pub day : use_.time ≤ 2879

-- the rows: two uses that can be there and break their crossing, the one on the lesser track first
pub record IsCrossRow (net : Net) (row : CRow) : Type 0 where
  pub order : row.first_track.0 < row.second_track.0
  pub first : IsPossible net (first_use row)
  pub second : IsPossible net (second_use row)
  pub broken : ¬ KeepsCrossing net (first_use row) (second_use row)

-- the minutes of the crossing from a use to another one, and 0 where there is none
abbrev pub minutes_between : Net → TrackUse → TrackUse → ℕ
minutes_between net a b = unwrap_or (crossing_of net a.track b.track a.kind b.kind) 0

-- whether two uses come too near: the second comes less than the minutes of the crossing after the first, and the first
-- less than those of the other direction after the second
abbrev pub are_near : Net → TrackUse → TrackUse → Bool
are_near net a b = nat_lt b.time (a.time + minutes_between net a b) && nat_lt a.time (b.time + minutes_between net b a)

-- whether a use can be there
abbrev pub is_possible : Net → TrackUse → Bool
is_possible net a = is_some (times_of net a.track a.kind) && nat_le a.time 2879

-- the test of rows
abbrev pub is_row_of : Net → CRow → Bool
is_row_of net row =
    nat_lt row.first_track.0 row.second_track.0 && is_possible net (first_use row) && is_possible net (second_use row) && are_near net (first_use row) (second_use row)

-- whether two uses are the same
abbrev pub is_use : TrackUse → TrackUse → Bool
is_use a b = nat_eq a.track.0 b.track.0 && nat_eq a.kind.0 b.kind.0 && nat_eq a.time b.time

-- whether a use is one of the two of a row
abbrev pub is_one_of : TrackUse → CRow → Bool
is_one_of a row = is_use a (first_use row) || is_use a (second_use row)

-- whether a use uses the row: it is one, and the use is one of its two
abbrev pub uses_row : Net → TrackUse → CRow → Bool
uses_row net a row = is_row_of net row && is_one_of a row

-- once, or not at all
abbrev pub use_in : Net → TrackUse → CRow → ℕ
use_in net a row = if uses_row net a row then 1 else 0

-- the rows of crossings on a network, each of capacity 1
abbrev pub cross_rows : Net → Rows CRow
cross_rows net = record { is_row = is_row_of net; capacity = λ _. 1; uses = λ kind leg row. use_in net (use_of kind leg) row }

-- a leg uses at most so many rows
abbrev pub most_rows : ℕ
most_rows = 4000

-- ---- the rule

-- no use that lies in a row stands at two places of the list
abbrev pub KeepsOnce : Net → List TrackUse → Type 0
KeepsOnce net uses =
    (i j : ℕ) (a : TrackUse) (row : CRow) → i ≢ j → slice_get uses i ≡ Some a → slice_get uses j ≡ Some a → IsCrossRow net row → ¬ ((a ≡ first_use row) ⊎ (a ≡ second_use row))

-- every two uses of different tracks keep their crossing, and no use that lies in a row stands at two places
pub record KeepsCrossRule (net : Net) (entries : List Entry) : Type 0 where
  pub crossings : KeepsCrossings net (map use_of_entry entries)
  pub once : KeepsOnce net (map use_of_entry entries)

-- the uses keep the headways and the crossings
pub record KeepsTracks (net : Net) (uses : List TrackUse) : Type 0 where
  pub headways : KeepsHeadways net uses
  pub crossings : KeepsCrossings net uses

-- legs keep the headways and the crossings exactly where they use no row of the two families above its capacity
abbrev pub AreBothRules : Net → List Entry → Type 0
AreBothRules net entries = KeepsTracks net (map use_of_entry entries) ↔ FitRows (both_rows (headway_rows net) (cross_rows net)) entries
