-- Answers of the reader of records as answers of this crate.
use Rattle.std.proofs.Common.{◌≡◌, Result, Ok, Err, OnOk, ap}
use Rattle.optra_records.specs.Tables.{FailsTable, GivesTable}
use Rattle.optra_records.specs.declared.TableError.{TableError}
use Rattle.optra_records.specs.declared.TableError.TheVariants as unread
use Rattle.optra_tables.specs.Outcomes.{◌>>=◌, Fails, Gives, IsRowAnswer, error_of}
use Rattle.optra_tables.specs.declared.ReadError.{ReadError}
use Rattle.optra_tables.specs.declared.ReadError.TheVariants as errors
use Rattle.optra_tables.specs.declared.TableFault.{TableFault}

-- a fault goes through
pub fails_bind : {Y Z : Type 0} (e : ReadError) (read : Result Y TableFault) (more : Y → Result Z TableFault) → Fails e read → Fails e (read >>= more)
fails_bind errors.NoMemory read more h = tt
fails_bind (errors.Fault f) read more h = ap (λ (r : Result _ TableFault). r >>= more) h

-- the reader's error is this crate's
pub fails_told : {Y : Type 0} (e : TableError TableFault) (read : Result Y TableFault) → FailsTable e read → Fails (error_of e) read
fails_told unread.NoMemory read h = tt
fails_told (unread.Fault f) read h = h

-- this crate's answer is the reader's
pub gives_row : {Y : Type 0} (known : Y) (answer : Result (Unit {0}) ReadError) (result : Result (Unit {0}) (TableError TableFault)) (read : Result Y TableFault) → IsRowAnswer answer result
    → Gives (λ _. known) answer read → GivesTable (λ _. known) result read
gives_row known (Ok x) result read e h = rw e h
gives_row known (Err (errors.Fault f)) result read e h = rw e h
gives_row known (Err errors.NoMemory) result read e h = rw e tt

-- what an accepted record gives, where the answer has it
pub row_gives : {Y : Type 0} (P : Type 0) (known : Y) (answer : Result (Unit {0}) ReadError) (result : Result (Unit {0}) (TableError TableFault)) (read : Result Y TableFault)
    → IsRowAnswer answer result → Gives (λ _. known) answer read → (read ≡ Ok known → P) → OnOk result P
row_gives P known (Ok x) result read e h gives = rw e (gives h)
row_gives P known (Err (errors.Fault f)) result read e h gives = rw e tt
row_gives P known (Err errors.NoMemory) result read e h gives = rw e tt
