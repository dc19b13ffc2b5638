-- The fields of a record: their number, names and numbers.
use Rattle.std.specs.Prelude.{ℕ, ◌+◌, List, [], ◌∷◌, Option, None, Some, Result, Ok, if◌then◌else◌}
use Rattle.optra_network.specs.Names.{is_name}
use Rattle.optra_records.specs.Reading.{Field, Record}
use Rattle.optra_records.specs.Tables as forms
use Rattle.optra_records.specs.Tables.{field}
use Rattle.optra_tables.specs.Outcomes.{◌>>=◌, fault, or_fault}
use Rattle.optra_tables.specs.declared.Kind.TheVariants as kinds
use Rattle.optra_tables.specs.declared.Table.{Table}
use Rattle.optra_tables.specs.declared.TableFault.{TableFault}

-- Csv, where a record has another number of fields or a field isn't UTF-8
abbrev pub shaped : Table → ℕ → ℕ → Record → Result (Unit {0}) TableFault
shaped table row n fields = forms.shaped (fault table row kinds.Csv) n fields

-- the name of a text, if it is one
abbrev pub name_of : Field → Option Field
name_of text = if is_name text then Some text else None

-- the name in a field, or Name
abbrev pub name_at : Table → ℕ → Record → ℕ → Result Field TableFault
name_at table row fields i = or_fault (fault table row kinds.Name) (name_of (field fields i))

-- the number in a field, or Number
abbrev pub number_at : Table → ℕ → Record → ℕ → Result ℕ TableFault
number_at table row fields i = forms.number_at (fault table row kinds.Number) fields i

-- two numbers in a row
abbrev pub two_at : Table → ℕ → Record → ℕ → Result (List ℕ) TableFault
two_at table row fields i = do
  a ← number_at table row fields i
  b ← number_at table row fields (i + 1)
  Ok (a ∷ b ∷ [])

-- three numbers in a row
abbrev pub three_at : Table → ℕ → Record → ℕ → Result (List ℕ) TableFault
three_at table row fields i = do
  a ← number_at table row fields i
  b ← number_at table row fields (i + 1)
  c ← number_at table row fields (i + 2)
  Ok (a ∷ b ∷ c ∷ [])

-- four numbers in a row
abbrev pub four_at : Table → ℕ → Record → ℕ → Result (List ℕ) TableFault
four_at table row fields i = do
  a ← number_at table row fields i
  b ← number_at table row fields (i + 1)
  c ← number_at table row fields (i + 2)
  d ← number_at table row fields (i + 3)
  Ok (a ∷ b ∷ c ∷ d ∷ [])

-- six numbers in a row
abbrev pub six_at : Table → ℕ → Record → ℕ → Result (List ℕ) TableFault
six_at table row fields i = do
  a ← number_at table row fields i
  b ← number_at table row fields (i + 1)
  c ← number_at table row fields (i + 2)
  d ← number_at table row fields (i + 3)
  e ← number_at table row fields (i + 4)
  f ← number_at table row fields (i + 5)
  Ok (a ∷ b ∷ c ∷ d ∷ e ∷ f ∷ [])
