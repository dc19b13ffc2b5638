-- The fields of certificates: what each tells, its text, and its fault.
use Rattle.std.specs.Prelude.{◌≡◌, ℕ, ◌<◌, ◌≤◌, ◌^◌, ◌&&◌, Bool, true, false, All, List, [], ◌∷◌, length, nat_le, ⊤, Option, None, Some, Result, Ok, Err, is_some, unwrap_or, slice_get, if◌then◌else◌}
use Rattle.std.specs.Fmt.{decimal}
use Rattle.std.specs.Str.{is_utf8}
use Rattle.optra_network.specs.Net.{Net, IsFromTo}
use Rattle.optra_network.specs.Names.{AllDiffer, place_of}
use Rattle.optra_records.specs.Numbers.{plain_number_of}
use Rattle.optra_records.specs.Reading.{Field, Record}
use Rattle.optra_cert.specs.declared.CertCode.{CertCode}
use Rattle.optra_cert.specs.declared.CertCode.TheVariants as codes

-- what a field may tell: a station, a track, a type, a number from one to another, or one of some words
pub data Column : Type 0 where
  a_station : Column
  a_track : Column
  a_type : Column
  a_number : ℕ → ℕ → Column
  a_word : List Field → Column

-- the number, where it is from one to another
abbrev pub in_range : ℕ → ℕ → Option ℕ → Option ℕ
in_range low high None = None
in_range low high (Some n) = if nat_le low n && nat_le n high then Some n else None

-- what a field tells: the position of a station, of a track, of a type or of a word, or a number
abbrev pub told_in : Net → Column → Field → Option ℕ
told_in net a_station field = place_of field net.stations
told_in net a_track field = place_of field net.track_names
told_in net a_type field = place_of field net.types
told_in net (a_number low high) field = in_range low high (plain_number_of field)
told_in net (a_word words) field = place_of field words

-- the text that tells it
abbrev pub shown_in : Net → Column → ℕ → Field
shown_in net a_station n = unwrap_or (slice_get net.stations n) []
shown_in net a_track n = unwrap_or (slice_get net.track_names n) []
shown_in net a_type n = unwrap_or (slice_get net.types n) []
shown_in net (a_number low high) n = decimal n
shown_in net (a_word words) n = unwrap_or (slice_get words n) []

-- it can be told: it is a position, or a number of the range
abbrev pub FitsIn : Net → Column → ℕ → Type 0
FitsIn net a_station n = n < length net.stations
FitsIn net a_track n = n < length net.tracks
FitsIn net a_type n = n < length net.types
FitsIn net (a_number low high) n = IsFromTo low high n
FitsIn net (a_word words) n = n < length words

-- it has a text: it is a position, or any number
abbrev pub IsKnownIn : Net → Column → ℕ → Type 0
IsKnownIn net a_station n = n < length net.stations
IsKnownIn net a_track n = n < length net.tracks
IsKnownIn net a_type n = n < length net.types
IsKnownIn net (a_number low high) n = ⊤
IsKnownIn net (a_word words) n = n < length words

-- a text is told by one field: numbers have at most 18 digits, and words differ
abbrev pub IsSoundColumn : Column → Type 0
IsSoundColumn a_station = ⊤
IsSoundColumn a_track = ⊤
IsSoundColumn a_type = ⊤
IsSoundColumn (a_number low high) = high < 10 ^ 18
IsSoundColumn (a_word words) = AllDiffer words

-- the words of a column are UTF-8
abbrev pub IsTextColumn : Column → Type 0
IsTextColumn a_station = ⊤
IsTextColumn a_track = ⊤
IsTextColumn a_type = ⊤
IsTextColumn (a_number low high) = ⊤
IsTextColumn (a_word words) = All (λ word. is_utf8 word ≡ true) words

-- a word is as short as a name is: at most 64 bytes
abbrev pub IsShortWord : Field → Type 0
IsShortWord word = length word ≤ 64

-- the words of a column are short
abbrev pub IsShortColumn : Column → Type 0
IsShortColumn a_station = ⊤
IsShortColumn a_track = ⊤
IsShortColumn a_type = ⊤
IsShortColumn (a_number low high) = ⊤
IsShortColumn (a_word words) = All IsShortWord words

-- the fault of a field that tells nothing
abbrev pub fault_in : Column → CertCode
fault_in a_station = codes.Name
fault_in a_track = codes.Name
fault_in a_type = codes.Name
fault_in (a_number low high) = codes.Number
fault_in (a_word words) = codes.Record

-- the fields of values
abbrev pub shown : Net → List Column → List ℕ → Record
shown net [] values = []
shown net (column ∷ columns) [] = []
shown net (column ∷ columns) (n ∷ values) = shown_in net column n ∷ shown net columns values

-- a value before others that were told
abbrev pub before_others : ℕ → Result (List ℕ) CertCode → Result (List ℕ) CertCode
before_others n (Ok values) = Ok (n ∷ values)
before_others n (Err code) = Err code

-- what is told, or the fault of the field, where the others tell this
abbrev pub told_before : Column → Option ℕ → Result (List ℕ) CertCode → Result (List ℕ) CertCode
told_before column None others = Err (fault_in column)
told_before column (Some n) others = before_others n others

-- the values that fields tell, or the fault of the first field from the left that tells none; another number of fields is Record
abbrev pub values_of : Net → List Column → Record → Result (List ℕ) CertCode
values_of net [] [] = Ok []
values_of net [] (field ∷ fields) = Err codes.Record
values_of net (column ∷ columns) [] = Err codes.Record
values_of net (column ∷ columns) (field ∷ fields) = told_before column (told_in net column field) (values_of net columns fields)

-- whether there is a field for each column, and each word is a known one
abbrev pub has_form : List Column → Record → Bool
has_form [] [] = true
has_form [] (field ∷ fields) = false
has_form (column ∷ columns) [] = false
has_form (a_word words ∷ columns) (field ∷ fields) = is_some (place_of field words) && has_form columns fields
has_form (column ∷ columns) (field ∷ fields) = has_form columns fields

-- the values of a record: its form is tested first, and then its fields from left to right
abbrev pub record_values : Net → List Column → Record → Result (List ℕ) CertCode
record_values net columns fields = if has_form columns fields then values_of net columns fields else Err codes.Record
