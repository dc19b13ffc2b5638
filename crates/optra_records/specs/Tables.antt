-- What a table means: its header, and what its records add to what is known, or its first fault.
use Rattle.std.specs.Prelude.{◌≡◌, ℕ, ◌+◌, ◌&&◌, ◌==◌, List, [], ◌∷◌, length, Bool, Option, None, Some, Result, Ok, Err, slice_get, unwrap_or, if◌then◌else◌}
use Rattle.std.specs.Cmp.Lexicographic.{pointwise}
use Rattle.std.specs.List.{list_all}
use Rattle.std.specs.Str.{bytes_eq, is_utf8}
use Rattle.optra_records.specs.Numbers.{number_of}
use Rattle.optra_records.specs.Reading.{Field, Record, table_records}
use Rattle.optra_records.specs.declared.tables.TableError.{TableError}
use Rattle.optra_records.specs.declared.tables.TableError.TheVariants as errors

-- the field at a place, which is empty where there is none
abbrev pub field : Record → ℕ → Field
field fields i = unwrap_or (slice_get fields i) []

-- a record has n fields, each of them UTF-8
abbrev pub is_row : ℕ → Record → Bool
is_row n fields = (length fields == n) && list_all is_utf8 fields

-- a value that is there, or a fault
abbrev pub or_else : {A F : Type 0} → F → Option A → Result A F
or_else fault (Some x) = Ok x
or_else fault None = Err fault

-- the fault, where a record has another number of fields or one that isn't UTF-8
abbrev pub shaped : {F : Type 0} → F → ℕ → Record → Result (Unit {0}) F
shaped fault n fields = if is_row n fields then Ok tt else Err fault

-- the number in a field, or the fault
abbrev pub number_at : {F : Type 0} → F → Record → ℕ → Result ℕ F
number_at fault fields i = or_else fault (number_of (field fields i))

-- go on with the value, or keep the fault
abbrev pub and_then : {A B F : Type 0} → Result A F → (A → Result B F) → Result B F
and_then (Ok x) f = f x
and_then (Err e) f = Err e

-- the same, as `do` writes it
infixl 10 ◌>>=◌
abbrev pub ◌>>=◌ : {A B F : Type 0} → Result A F → (A → Result B F) → Result B F
read >>= f = and_then read f

-- a fault, where a test fails
abbrev pub guard : {F : Type 0} → F → Bool → Result (Unit {0}) F
guard f passes = if passes then Ok tt else Err f

-- the records after the header, which is row 1, or what is wrong without it
unfoldable pub rows_under : {F : Type 0} → F → Record → List Record → Result (List Record) F
rows_under missing header [] = Err missing
rows_under missing header (first ∷ rest) = if pointwise bytes_eq first header then Ok rest else Err missing

module _ {K F : Type 0} (step : K → ℕ → Record → Result K F) where
  -- the records in turn, from this row on, each of which adds to what is known
  unfoldable pub rows_from : K → ℕ → List Record → Result K F
  rows_from known row [] = Ok known
  rows_from known row (fields ∷ rest) = and_then (step known row fields) (λ more. rows_from more (row + 1) rest)

  -- What is known after a table, or its first fault but for those of the whole table.
  unfoldable pub table_of : F → Record → K → List ℕ → Result K F
  table_of missing header known bytes = and_then (rows_under missing header (table_records bytes)) (λ rows. rows_from known 2 rows)

-- a fault of a call is the fault of the table, or want of memory, which says nothing
abbrev pub FailsTable : {Y F : Type 0} → TableError F → Result Y F → Type 0
FailsTable errors.NoMemory read = Unit {0}
FailsTable (errors.Fault f) read = read ≡ Err f

-- What a call answers, seen by view, is what reading gives, unless memory ran out.
abbrev pub GivesTable : {X Y F : Type 0} → (X → Y) → Result X (TableError F) → Result Y F → Type 0
GivesTable view (Ok x) read = read ≡ Ok (view x)
GivesTable view (Err e) read = FailsTable e read
