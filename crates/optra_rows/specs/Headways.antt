-- Headway rows: which there are, and which uses of tracks use them.
use Rattle.std.specs.Prelude.{◌≡◌, ℕ, ◌+◌, ◌-◌, ◌<◌, ◌≤◌, ◌++◌, true, false, filter, get_or, nat_le, nat_lt, nat_eq, ◌&&◌, ◌||◌, Bool, List, length, map, Option, Some, None, if◌then◌else◌}
use Rattle.std.specs.List.{range_with_len}
use Rattle.std.specs.List.Sorted.{IsNonDecreasingBy}
use Rattle.optra_network.specs.Net.{Net, IsTrack}
use Rattle.optra_network.specs.Headways.{hmin_or_0}
use Rattle.optra_network.specs.Partners.{ArePaired, use_at, is_paired, partners_of}
use Rattle.optra_network.specs.declared.Partner.{Partner}
use Rattle.optra_network.specs.declared.TrackId.{TrackId}
use Rattle.optra_network.specs.declared.TypeId.{TypeId}
use Rattle.optra_walk.specs.Families.{Entry, Rows, use_of_entry}
use Rattle.optra_walk.specs.Choices.{KeepsHeadways}
use Rattle.optra_rows.specs.declared.HRow.{HRow}
use Rattle.optra_rows.specs.declared.HRow.TheVariants.{Window, Pair}

-- the rows: the minutes 0 to 2,998 of the tracks, and two uses of the day that are in conflict and share no window
-- minute, the smaller first
abbrev pub IsHeadwayRow : Net → HRow → Type 0
IsHeadwayRow net (Window track minute) = IsTrack net track × (minute ≤ 2998)
IsHeadwayRow net (Pair track t a u b) = ArePaired net (use_at track a t) (use_at track b u) × (u ≤ 2879)

-- the test of it
abbrev pub is_row_of : Net → HRow → Bool
is_row_of net (Window track minute) = nat_lt track.0 (length net.tracks) && nat_le minute 2998
is_row_of net (Pair track t a u b) = is_paired net track t a u b && nat_le u 2879

-- whether a type that departs at a time has the minute in its window: from the departure on, as many minutes as the
-- least headway after the type
abbrev pub is_in_window : Net → TrackId → TypeId → ℕ → ℕ → Bool
is_in_window net track kind time minute = nat_le time minute && nat_lt minute (time + hmin_or_0 net track kind)

-- whether a type and a time are another type and time
abbrev pub is_at : TypeId → ℕ → TypeId → ℕ → Bool
is_at a t b u = nat_eq a.0 b.0 && nat_eq t u

-- whether a type that departs on a track at a time uses the row, where it is one: it has the window's minute, or it is
-- one of the pair
abbrev pub is_used_by : Net → TrackId → TypeId → ℕ → HRow → Bool
is_used_by net track kind time (Window other minute) = nat_eq track.0 other.0 && is_in_window net track kind time minute
is_used_by net track kind time (Pair other t a u b) = nat_eq track.0 other.0 && (is_at kind time a t || is_at kind time b u)

abbrev pub uses_row : Net → TrackId → TypeId → ℕ → HRow → Bool
uses_row net track kind time row = is_row_of net row && is_used_by net track kind time row

-- once, or not at all
abbrev pub use_in : Net → TypeId → TrackId → ℕ → HRow → ℕ
use_in net kind track time row = if uses_row net track kind time row then 1 else 0

-- the rows of headways on a network, each of capacity 1
abbrev pub headway_rows : Net → Rows HRow
headway_rows net = record { is_row = is_row_of net; capacity = λ _. 1; uses = λ kind leg row. use_in net kind leg.track leg.depart row }

-- the uses at every two different places are compatible
abbrev pub KeepsHeadwayRule : Net → List Entry → Type 0
KeepsHeadwayRule net entries = KeepsHeadways net (map use_of_entry entries)

-- the row of a use and a partner of it
abbrev pub pair_of : TrackId → TypeId → ℕ → Partner → HRow
pair_of track kind time partner =
    if nat_lt partner.shift 120 then Pair track (time + partner.shift - 120) partner.kind time kind else Pair track time kind (time + partner.shift - 120) partner.kind

-- a leg uses at most so many rows
abbrev pub most_rows : ℕ
most_rows = 3944

-- whether a partner's minute is in the day: no earlier, and no later
abbrev pub is_started : ℕ → Partner → Bool
is_started time partner = nat_le 120 (time + partner.shift)

abbrev pub is_not_over : ℕ → Partner → Bool
is_not_over time partner = nat_le (time + partner.shift) 2999

-- the partners whose minutes are in the day
abbrev pub in_day : ℕ → List Partner → List Partner
in_day time partners = filter (λ partner. is_started time partner && is_not_over time partner) partners

-- up to the place the partners' minutes are before the day, and from it on they are not
pub record IsFirstStarted (time : ℕ) (partners : List Partner) (place : ℕ) : Type 0 where
  pub before : (k : ℕ) (d : Partner) → k < place → is_started time (get_or partners k d) ≡ false
  pub after : (k : ℕ) (d : Partner) → place ≤ k → k < length partners → is_started time (get_or partners k d) ≡ true

-- up to the place the partners' minutes are not after the day, and from it on they are
pub record IsFirstOver (time : ℕ) (partners : List Partner) (place : ℕ) : Type 0 where
  pub within : place ≤ length partners
  pub before : (k : ℕ) (d : Partner) → k < place → is_not_over time (get_or partners k d) ≡ true
  pub after : (k : ℕ) (d : Partner) → place ≤ k → k < length partners → is_not_over time (get_or partners k d) ≡ false

-- partners in the order of their minutes
abbrev pub ShiftsRise : List Partner → Type 0
ShiftsRise partners = IsNonDecreasingBy (λ partner. partner.shift) partners

-- the window rows that a type uses which departs on the track at the time, ascending
abbrev pub windows_of : Net → TrackId → TypeId → ℕ → List HRow
windows_of net track kind time = map (λ minute. Window track minute) (range_with_len time (hmin_or_0 net track kind))

-- and the pair rows
abbrev pub pairs_of : Net → TrackId → TypeId → ℕ → List HRow
pairs_of net track kind time = map (pair_of track kind time) (in_day time (partners_of net track kind))

-- all of them
abbrev pub touched_rows : Net → TrackId → TypeId → ℕ → List HRow
touched_rows net track kind time = windows_of net track kind time ++ pairs_of net track kind time

-- the value, where the test holds of it
abbrev pub kept : {X : Type 0} → (X → Bool) → Option X → Option X
kept p None = None
kept p (Some x) = if p x then Some x else None
