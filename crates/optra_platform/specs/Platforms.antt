-- Rows of platforms: which there are, and which legs use them.
use Rattle.std.specs.Prelude.{ℕ, ◌-◌, ◌<◌, ◌≤◌, ◌&&◌, ◌||◌, not, true, nat_eq, nat_lt, nat_le, min, Bool, List, [], map, Option, if◌then◌else◌}
use Rattle.std.specs.List.{range_with_len}
use Rattle.std.specs.Option.{option_map_or}
use Rattle.optra_network.specs.Net.{Net, halt_max_of}
use Rattle.optra_network.specs.declared.StationId.{StationId}
use Rattle.optra_network.specs.declared.TypeId.{TypeId}
use Rattle.optra_walk.specs.declared.Leg.{Leg}
use Rattle.optra_walk.specs.Families.{Rows}
use Rattle.optra_walk.specs.Legs.{arrival_of, next_depart_of}
use Rattle.optra_walk.specs.Rules.{head_of, is_standing, stands_at}
use Rattle.optra_platform.specs.declared.PRow.{PRow}

-- the rows: the stations with a limit, and the minutes of the two days
abbrev pub IsPlatformRow : Net → PRow → Type 0
IsPlatformRow net row = (0 < halt_max_of net row.station) × (row.minute ≤ 2879)

-- the test of it
abbrev pub is_row_of : Net → PRow → Bool
is_row_of net row = nat_lt 0 (halt_max_of net row.station) && nat_le row.minute 2879

-- whether a leg uses the row: it is one, and the leg stands there
abbrev pub uses_row : Net → TypeId → Leg → PRow → Bool
uses_row net kind leg row = is_row_of net row && stands_at net kind leg row.station row.minute

-- once, or not at all
abbrev pub use_in : Net → TypeId → Leg → PRow → ℕ
use_in net kind leg row = if uses_row net kind leg row then 1 else 0

-- the rows of platforms on a network, each of the capacity of its station
abbrev pub platform_rows : Net → Rows PRow
platform_rows net = record { is_row = is_row_of net; capacity = λ row. halt_max_of net row.station; uses = use_in net }

-- a leg uses at most so many rows
abbrev pub most_rows : ℕ
most_rows = 240

-- the row of a station and a minute
abbrev pub row_at : StationId → ℕ → PRow
row_at station minute = record { station = station; minute = minute }

-- the rows of the minutes from an arrival up to a departure, as far as they are in the two days
abbrev pub rows_between : StationId → ℕ → ℕ → List PRow
rows_between station arrival departure = map (row_at station) (range_with_len arrival (min departure 2880 - arrival))

-- how many minutes of the two days there are from an arrival up to a departure, of which each may be missing
abbrev pub count_between : Option ℕ → Option ℕ → ℕ
count_between arrival departure = option_map_or (λ a. option_map_or (λ d. min d 2880 - a) departure 0) arrival 0

-- the same, where the station has a limit
abbrev pub rows_from : Net → StationId → ℕ → ℕ → List PRow
rows_from net station arrival departure = if nat_lt 0 (halt_max_of net station) then rows_between station arrival departure else []

-- the rows of a stay at a station, an arrival and a departure, of which each may be missing
abbrev pub rows_of_stay : Net → Option StationId → Option ℕ → Option ℕ → List PRow
rows_of_stay net head arrival departure = option_map_or (λ s. option_map_or (λ a. option_map_or (λ d. rows_from net s a d) departure []) arrival []) head []

-- the rows that a leg uses, ascending
abbrev pub standing_rows : Net → TypeId → Leg → List PRow
standing_rows net kind leg = rows_of_stay net (head_of net leg.track) (arrival_of net kind leg) (next_depart_of net kind leg)

-- whether a leg uses no row whatever its times are: it stands nowhere, or its station has no limit
abbrev pub is_free : Net → Leg → Bool
is_free net leg = not (is_standing leg.action) || option_map_or (λ s. nat_eq (halt_max_of net s) 0) (head_of net leg.track) true
