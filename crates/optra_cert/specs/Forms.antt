-- The forms of the records of a certificate.
use Rattle.std.specs.Prelude.{ℕ, ◌-◌, List, [], ◌∷◌, length, take, drop, Option, None, unwrap_or, slice_get, bytes_eq, codes, if◌then◌else◌}
use Rattle.optra_records.specs.Numbers.{plain_number_of}
use Rattle.optra_records.specs.Reading.{Field, Record}
use Rattle.optra_cert.specs.Columns.{in_range}

-- the field at a place, which is empty where there is none
abbrev pub field_at : Record → ℕ → Field
field_at fields i = unwrap_or (slice_get fields i) []

-- all fields but the last, and the last alone
abbrev pub but_last : Record → Record
but_last fields = take (length fields - 1) fields

abbrev pub last_alone : Record → Record
last_alone fields = drop (length fields - 1) fields

-- the version that a record states, from 1 to the greatest
abbrev pub version_told : ℕ → Record → Option ℕ
version_told most (word ∷ version ∷ []) = if bytes_eq word (codes "optra-certificate") then in_range 1 most (plain_number_of version) else None
version_told most _ = None

-- the version that the first record states
abbrev pub version_of : ℕ → List Record → Option ℕ
version_of most [] = None
version_of most (fields ∷ rows) = version_told most fields
