-- The network of a demo: stations in a row, and between each two neighbours a segment of two tracks, one each way.
use Rattle.std.specs.Prelude.{ℕ, ◌+◌, ◌-◌, ◌*◌, List, [], ◌∷◌, ◌++◌, length, map, codes, slice_index}
use Rattle.std.specs.Fmt.{decimal}
use Rattle.std.specs.List.{flat_map, range_with_len}
use Rattle.optra_records.specs.Reading.{Field, Record}
use Rattle.optra_demo.specs.Draws.{draw}
use Rattle.optra_demo.specs.Kinds.{all_kinds, extra_of, kind_name}
use Rattle.optra_demo.specs.Names.{back_name, onward_name, station_name}
use Rattle.optra_demo.specs.declared.kinds.Kind.{Kind}

-- how many stations a demo of a size has
abbrev pub station_count : ℕ → ℕ
station_count size = 4 * size

-- how many segments
abbrev pub segment_count : ℕ → ℕ
segment_count size = station_count size - 1

-- the minutes of so many segments, by the first draws behind a state
abbrev pub segment_minutes : ℕ → ℕ → List ℕ
segment_minutes x count = map (λ k. 4 + draw x k 5) (range_with_len 0 count)

-- the numbers of so many segments
abbrev pub segments : ℕ → List ℕ
segments count = range_with_len 1 count

-- ---- the rows

abbrev pub station_rows : ℕ → List Record
station_rows i = (station_name i ∷ []) ∷ []

-- the two tracks of a segment
abbrev pub track_rows : ℕ → List Record
track_rows i =
    (onward_name i ∷ station_name i ∷ station_name (i + 1) ∷ [])
    ∷ (back_name i ∷ station_name (i + 1) ∷ station_name i ∷ []) ∷ []

abbrev pub type_row : Kind → Record
type_row kind = kind_name kind ∷ []

-- on a track of so many minutes, a type runs so many and its extra minutes, and one more for each halt
abbrev pub running_row : Field → ℕ → Kind → Record
running_row track minutes kind =
    track ∷ kind_name kind
    ∷ decimal (minutes + extra_of kind) ∷ decimal (minutes + extra_of kind + 1)
    ∷ decimal (minutes + extra_of kind + 1) ∷ decimal (minutes + extra_of kind + 2) ∷ []

-- the rows of the two tracks of a segment of so many minutes
abbrev pub segment_running : ℕ → ℕ → List Record
segment_running i minutes = map (running_row (onward_name i) minutes) all_kinds ++ map (running_row (back_name i) minutes) all_kinds

-- the same, where the minutes of all segments are given
abbrev pub running_rows : List ℕ → ℕ → List Record
running_rows minutes i = segment_running i (slice_index minutes (i - 1))

-- three minutes, and by how many the first is slower
abbrev pub headway_minutes : Kind → Kind → ℕ
headway_minutes first second = 3 + (extra_of first - extra_of second)

abbrev pub headway_row : Field → Kind → Kind → Record
headway_row track first second = track ∷ kind_name first ∷ kind_name second ∷ decimal (headway_minutes first second) ∷ []

-- the rows of a track, by the first type and then by the second
abbrev pub track_headways : Field → List Record
track_headways track = flat_map (λ first. map (headway_row track first) all_kinds) all_kinds

abbrev pub headway_rows : ℕ → List Record
headway_rows i = track_headways (onward_name i) ++ track_headways (back_name i)

-- ---- the tables' records

abbrev pub station_records : ℕ → List Record
station_records stations = (codes "station" ∷ []) ∷ flat_map station_rows (range_with_len 1 stations)

abbrev pub track_records : ℕ → List Record
track_records count = (codes "track" ∷ codes "from" ∷ codes "to" ∷ []) ∷ flat_map track_rows (segments count)

abbrev pub type_records : List Record
type_records = (codes "type" ∷ []) ∷ map type_row all_kinds

abbrev pub running_header : Record
running_header = codes "track" ∷ codes "type" ∷ codes "pass_pass" ∷ codes "pass_halt" ∷ codes "halt_pass" ∷ codes "halt_halt" ∷ []

abbrev pub running_records : List ℕ → List Record
running_records minutes = running_header ∷ flat_map (running_rows minutes) (segments (length minutes))

abbrev pub headways_header : Record
headways_header = codes "track" ∷ codes "first" ∷ codes "second" ∷ codes "minutes" ∷ []

abbrev pub headway_records : ℕ → List Record
headway_records count = headways_header ∷ flat_map headway_rows (segments count)
