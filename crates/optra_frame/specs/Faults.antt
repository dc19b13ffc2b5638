-- The faults that end a command: the status and the line of each, and how the run has gone.
use Rattle.std.specs.Prelude.{◌≡◌, ℕ, List, String, string_bytes, ⊤}
use Rattle.std.specs.declared.alloc.Global.{Global}
use Rattle.optra_outside.specs.Counts.{Rose}
use Rattle.optra_outside.specs.Disk.{DiskState}
use Rattle.optra_outside.specs.Shelf.{ShelfState}
use Rattle.optra_outside.specs.declared.shelves.ShelfError.{ShelfError}
use Rattle.optra_outside.specs.declared.shelves.ShelfError.TheVariants as shelf_errors
use Rattle.optra_tables.specs.declared.ReadError.{ReadError}
use Rattle.optra_tables.specs.declared.ReadError.TheVariants as unread
use Rattle.optra_text.specs.declared.words.WordsError.{WordsError}
use Rattle.optra_text.specs.declared.words.WordsError.TheVariants as words
use Rattle.optra_text.specs.FaultLines.{usage_line, refusal_line, row_line, journal_line, read_line, absent_line, too_long_line, write_line, disk_line, memory_line}
use Rattle.optra_frame.specs.declared.fault.Fault.{Fault}
use Rattle.optra_frame.specs.declared.fault.Fault.TheVariants.{Refused, Read, Absent, TooLong, Write, Disk, NoMemory}
use Rattle.optra_frame.specs.declared.declined.Declined.{Declined}
use Rattle.optra_frame.specs.declared.declined.Declined.TheVariants.{Table, Coded, Journal}
use Rattle.optra_frame.specs.Commands.{Meaning}
use Rattle.optra_frame.specs.Ending.{IsDiskFault, IsRefusal, IsMissing, IsWriteFault}
use Rattle.optra_frame.specs.Files.{Contents}
use Rattle.optra_frame.specs.Gets.{Refuses}
use Rattle.optra_frame.specs.Outside.{Outside, IsSilent}
use Rattle.optra_frame.specs.Replies.{refused}
use Rattle.optra_frame.specs.Statuses.{usage_status, refused_status, read_status, absent_status, write_status, memory_status, too_long_status, journal_status, disk_status}

-- ---- what is said

-- the status and the line of what is declined
abbrev pub declined_status : Declined → ℕ
declined_status (Table fault) = refused_status
declined_status (Coded table row code) = refused_status
declined_status (Journal code) = journal_status

abbrev pub declined_line : Declined → List ℕ
declined_line (Table fault) = refusal_line fault
declined_line (Coded table row code) = row_line table.now row code.now
declined_line (Journal code) = journal_line code.now

-- the status and the line of a fault
abbrev pub status_of : Fault → ℕ
status_of (Refused declined) = declined_status declined
status_of (Read name) = read_status
status_of (Absent name) = absent_status
status_of (TooLong name) = too_long_status
status_of Write = write_status
status_of Disk = disk_status
status_of NoMemory = memory_status

abbrev pub line_of : Fault → List ℕ
line_of (Refused declined) = declined_line declined
line_of (Read name) = read_line (string_bytes name)
line_of (Absent name) = absent_line (string_bytes name)
line_of (TooLong name) = too_long_line (string_bytes name)
line_of Write = write_line
line_of Disk = disk_line
line_of NoMemory = memory_line

-- the status and the line of words that were not read, where the program's command forms are these
abbrev pub unread_status : WordsError → ℕ
unread_status words.Usage = usage_status
unread_status words.NoMemory = memory_status

abbrev pub unread_line : WordsError → List ℕ → List ℕ
unread_line words.Usage forms = usage_line forms
unread_line words.NoMemory forms = memory_line

-- ---- where it comes from

-- the fault that a refused get of this name makes
abbrev pub fault_of : ShelfError → String Global → Fault
fault_of shelf_errors.Failed name = Read name
fault_of shelf_errors.Absent name = Absent name
fault_of shelf_errors.TooLong name = TooLong name
fault_of shelf_errors.NoMemory name = NoMemory

-- the fault that tables which were not read make
abbrev pub unread_fault : ReadError → Fault
unread_fault (unread.Fault first) = Refused (Table first)
unread_fault unread.NoMemory = NoMemory

-- a get of the command's files was refused, or memory ran out
abbrev pub EndsGets : Meaning → ShelfState → ShelfState → Fault → Type 0
EndsGets command before now (Refused declined) = ⊥
EndsGets command before now (Read name) = Refuses command before now shelf_errors.Failed (string_bytes name)
EndsGets command before now (Absent name) = Refuses command before now shelf_errors.Absent (string_bytes name)
EndsGets command before now (TooLong name) = Refuses command before now shelf_errors.TooLong (string_bytes name)
EndsGets command before now Write = ⊥
EndsGets command before now Disk = ⊥
EndsGets command before now NoMemory = ⊤

-- The command's reply to these contents is that they are refused; or a call of the disk failed, or memory ran out. Where the files are
-- refused, the disk is as it was.
abbrev pub EndsReply : Meaning → Contents → DiskState → DiskState → Fault → Type 0
EndsReply command contents before now (Refused declined) =
    command.MayReply contents before now (refused (declined_status declined) (declined_line declined))
    × (declined_status declined ≡ refused_status → now ≡ before)
EndsReply command contents before now (Read name) = ⊥
EndsReply command contents before now (Absent name) = ⊥
EndsReply command contents before now (TooLong name) = ⊥
EndsReply command contents before now Write = ⊥
EndsReply command contents before now Disk = command.UsesDisk × Rose before.faults now.faults
EndsReply command contents before now NoMemory = ⊤

-- ---- how the run has gone

abbrev pub EndsBy : Meaning → Outside → Outside → Fault → Type 0
EndsBy command before now (Refused declined) = IsRefusal command before now (declined_status declined) (declined_line declined)
EndsBy command before now (Read name) = IsMissing command before now shelf_errors.Failed (string_bytes name)
EndsBy command before now (Absent name) = IsMissing command before now shelf_errors.Absent (string_bytes name)
EndsBy command before now (TooLong name) = IsMissing command before now shelf_errors.TooLong (string_bytes name)
EndsBy command before now Write = IsWriteFault command before now
EndsBy command before now Disk = IsDiskFault command before now
EndsBy command before now NoMemory = IsSilent before now
