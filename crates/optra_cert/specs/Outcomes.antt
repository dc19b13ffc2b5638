-- A value, or the fault of a record.
use Rattle.std.specs.Prelude.{◌≡◌, Result, Ok, Err}
use Rattle.optra_cert.specs.declared.CertCode.{CertCode}
use Rattle.optra_cert.specs.declared.CertCode.TheVariants as codes
use Rattle.optra_cert.specs.declared.CertError.{CertError}
use Rattle.optra_cert.specs.declared.CertError.TheVariants as errors
use Rattle.optra_cert.specs.declared.CertFault.{CertFault}
use Rattle.optra_cert.specs.declared.row_text.RowRead.{RowRead}
use Rattle.optra_cert.specs.declared.row_text.RowRead.TheVariants as read
use Rattle.optra_cert.specs.declared.refusals.Refusal.{Refusal}
use Rattle.optra_cert.specs.declared.refusals.Refusal.TheVariants as refusals

-- go on with the value, or keep the fault
infixl 10 ◌>>=◌
abbrev pub ◌>>=◌ : {A B E : Type 0} → Result A E → (A → Result B E) → Result B E
(Ok x) >>= f = f x
(Err e) >>= f = Err e

-- the row that fields were read as, or its fault
abbrev pub row_or_fault : {R : Type 0} → RowRead R → Result R CertCode
row_or_fault (read.Row row) = Ok row
row_or_fault read.Kind = Err codes.Record
row_or_fault read.Name = Err codes.Name
row_or_fault read.Number = Err codes.Number

-- what a call refuses is the fault of the record, or want of memory, which says nothing
abbrev pub Refuses : {Y : Type 0} → Refusal → Result Y CertCode → Type 0
Refuses refusals.NoMemory read = Unit {0}
Refuses (refusals.Fault code) read = read ≡ Err code

-- What a call answers, seen by view, is what reading gives, unless memory ran out.
abbrev pub Gives : {X Y : Type 0} → (X → Y) → Result X Refusal → Result Y CertCode → Type 0
Gives view (Ok x) read = read ≡ Ok (view x)
Gives view (Err refusal) read = Refuses refusal read

-- what stops a reader is the first fault, or want of memory, which says nothing
abbrev pub StopsAt : {Y : Type 0} → CertError → Result Y CertFault → Type 0
StopsAt errors.NoMemory read = Unit {0}
StopsAt (errors.Fault fault) read = read ≡ Err fault

-- What a reader answers, seen by view, is what reading gives, unless memory ran out.
abbrev pub Reads : {X Y : Type 0} → (X → Y) → Result X CertError → Result Y CertFault → Type 0
Reads view (Ok x) read = read ≡ Ok (view x)
Reads view (Err error) read = StopsAt error read
