-- Reading the records of a table one after the other, as a loop does.
use Rattle.std.proofs.Common.{◌≡◌, ◌+◌, ℕ, true, false, List, [], ◌∷◌, Result, Ok, Err, refl, sym, ap, ◌∙◌}
use Rattle.std.specs.Cmp.Lexicographic.{pointwise}
use Rattle.std.specs.Str.{bytes_eq}
use Rattle.optra_records.specs.Reading.{Record, table_records}
use Rattle.optra_records.specs.Tables.{FailsTable, and_then, rows_from, rows_under, table_of}
use Rattle.optra_records.specs.declared.tables.TableError.{TableError}
use Rattle.optra_records.specs.declared.tables.TableError.TheVariants as errors

-- a fault goes through
pub fails_then : {Y Z F : Type 0} (e : TableError F) (read : Result Y F) (more : Y → Result Z F) → FailsTable e read → FailsTable e (and_then read more)
fails_then errors.NoMemory read more h = tt
fails_then {F = F} (errors.Fault f) read more h = ap (λ (r : Result _ F). and_then r more) h

-- the first fault is the fault of the whole
pub fails_at : {Y Z F : Type 0} (e : TableError F) (read : Result Y F) (more : Y → Result Z F) (whole : Result Z F) → FailsTable e read → and_then read more ≡ whole → FailsTable e whole
fails_at errors.NoMemory read more whole h g = tt
fails_at {F = F} (errors.Fault f) read more whole h g = sym g ∙ ap (λ (r : Result _ F). and_then r more) h

module _ {K F : Type 0} (step : K → ℕ → Record → Result K F) where
  -- a record that is accepted leaves the others to be read
  pub row_goes : (before after : List Record) (fields : Record) (known more : K) (row : ℕ) (whole : Result K F) → before ≡ fields ∷ after → step known row fields ≡ Ok more
      → rows_from step known row before ≡ whole → rows_from step more (row + 1) after ≡ whole
  unfolding rows_from
  row_goes before after fields known more row whole b s g = rw (b, s) at g

  -- a record with a fault ends the reading
  pub row_fails : (before after : List Record) (fields : Record) (known : K) (row : ℕ) (whole : Result K F) (e : TableError F) → before ≡ fields ∷ after → FailsTable e (step known row fields)
      → rows_from step known row before ≡ whole → FailsTable e whole
  unfolding rows_from
  row_fails before after fields known row whole e b s g = fails_at e (step known row fields) (λ more. rows_from step more (row + 1) after) whole s (rw b at g)

  -- without a record what is known is all
  pub rows_end : (before : List Record) (known : K) (row : ℕ) (whole : Result K F) → before ≡ [] → rows_from step known row before ≡ whole → whole ≡ Ok known
  unfolding rows_from
  rows_end before known row whole b g = sym (rw b at g)

-- a table without records has no header
pub no_header : {F : Type 0} (missing : F) (header : Record) (before : List Record) → before ≡ [] → rows_under missing header before ≡ Err missing
unfolding rows_under
no_header missing header before b = rw b refl

-- the first record is the header
pub header_is : {F : Type 0} (missing : F) (header : Record) (before after : List Record) (fields : Record) → before ≡ fields ∷ after → pointwise bytes_eq fields header ≡ true
    → rows_under missing header before ≡ Ok after
unfolding rows_under
header_is missing header before after fields b h = rw (b, h) refl

-- the first record is another one
pub header_not : {F : Type 0} (missing : F) (header : Record) (before after : List Record) (fields : Record) → before ≡ fields ∷ after → pointwise bytes_eq fields header ≡ false
    → rows_under missing header before ≡ Err missing
unfolding rows_under
header_not missing header before after fields b h = rw (b, h) refl

module _ {K F : Type 0} (step : K → ℕ → Record → Result K F) where
  -- a fault of the header is that of the table
  pub table_fails : (missing : F) (header : Record) (known : K) (bytes : List ℕ) (e : TableError F) → FailsTable e (rows_under missing header (table_records bytes))
      → FailsTable e (table_of step missing header known bytes)
  unfolding table_of
  table_fails missing header known bytes e h = fails_then e (rows_under missing header (table_records bytes)) (rows_from step known 2) h

  -- under its header a table gives what its rows give
  pub table_rows : (missing : F) (header : Record) (known : K) (bytes : List ℕ) (rest : List Record) → rows_under missing header (table_records bytes) ≡ Ok rest
      → table_of step missing header known bytes ≡ rows_from step known 2 rest
  unfolding table_of
  table_rows missing header known bytes rest h = rw h refl
