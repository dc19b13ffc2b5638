-- A timetable that a command gets after the tables: its file, what it means on what they mean, and how it is refused.
use Rattle.std.specs.Prelude.{◌≡◌, ℕ, List, length, Option, Some, Result, Ok, Err, nat_eq, codes, if◌then◌else◌, ⊤}
use Rattle.optra_audit.specs.declared.Line.{Line}
use Rattle.optra_audit.specs.declared.TimesError.{TimesError}
use Rattle.optra_audit.specs.declared.TimesError.TheVariants as errors
use Rattle.optra_audit.specs.declared.TimesKind.{TimesKind}
use Rattle.optra_audit.specs.declared.TimesKind.TheVariants as kinds
use Rattle.optra_audit.specs.declared.row_faults.RowFault.{RowFault}
use Rattle.optra_audit.specs.Timetables.{lines_of}
use Rattle.optra_tables.specs.Bids.{names_of}
use Rattle.optra_tables.specs.declared.TableFault.{TableFault}
use Rattle.optra_text.specs.FaultLines.{refusal_line, row_line}
use Rattle.optra_frame.specs.declared.declined.Declined.{Declined}
use Rattle.optra_frame.specs.declared.fault.Fault.{Fault}
use Rattle.optra_frame.specs.declared.fault.Fault.TheVariants.{Refused, Read, Absent, TooLong, Write, Disk, NoMemory}
use Rattle.optra_frame.specs.declared.files.Role.TheVariants.{Timetable}
use Rattle.optra_frame.specs.Faults.{declined_line, declined_status}
use Rattle.optra_frame.specs.Files.{Contents, File, content_of}
use Rattle.optra_frame.specs.Replies.{Reply}
use Rattle.optra_frame.specs.Statuses.{refused_status}
use Rattle.optra_frame.specs.TableFiles.{AnswerTo, ReplyTo, Tables, all_tables, meaning_of, next_table_file}

-- ---- its file

-- the file of the timetable, which comes after the tables
abbrev pub times_file : List ℕ → File
times_file times = record { role = Timetable; name = times }

-- the next file after these; none once all are got
abbrev pub next_times_file : List ℕ → List ℕ → List ℕ → List ℕ → Contents → Option File
next_times_file net bids stops times contents =
    if nat_eq (length contents) (length (all_tables contents)) then Some (times_file times) else next_table_file net bids stops contents

-- the bytes of the timetable among the files
abbrev pub times_in : Contents → List ℕ
times_in contents = content_of contents Timetable

-- ---- what it means

-- what the tables mean, and the lines of a timetable of these bids
pub record Timed : Type 0 where
  pub tables : Tables
  pub lines : List Line

-- the first fault of the tables, or that of the timetable where they have none
pub data TimedFault : Type 0 where
  of_tables : TableFault → TimedFault
  of_times : RowFault → TimedFault

abbrev pub timed : Tables → List Line → Timed
timed tables lines = record { tables = tables; lines = lines }

-- the lines, where the timetable has no fault
abbrev pub timed_by : Tables → Result (List Line) RowFault → Result Timed TimedFault
timed_by tables (Ok lines) = Ok (timed tables lines)
timed_by tables (Err fault) = Err (of_times fault)

-- what the bytes of a timetable mean on these tables
abbrev pub timed_in : List ℕ → Tables → Result Timed TimedFault
timed_in bytes tables = timed_by tables (lines_of tables.net (names_of tables.bids) bytes)

-- the timetable, where the tables have no fault
abbrev pub timed_on : List ℕ → Result Tables TableFault → Result Timed TimedFault
timed_on bytes (Ok tables) = timed_in bytes tables
timed_on bytes (Err fault) = Err (of_tables fault)

-- what the contents of the files mean, or their first fault
abbrev pub timed_of : Contents → Result Timed TimedFault
timed_of contents = timed_on (times_in contents) (meaning_of contents)

-- ---- how it is refused

-- the code of a fault of a timetable
abbrev pub times_code : TimesKind → List ℕ
times_code kinds.Csv = codes "Csv"
times_code kinds.Header = codes "Header"
times_code kinds.Number = codes "Number"
times_code kinds.U1 = codes "U1"
times_code kinds.U2 = codes "U2"
times_code kinds.U3 = codes "U3"
times_code kinds.U4 = codes "U4"
times_code kinds.U5 = codes "U5"

-- the status and the line of contents that are refused
abbrev pub timed_status : TimedFault → ℕ
timed_status fault = refused_status

-- refused: timetable row <row> <code>
abbrev pub timed_line : TimedFault → List ℕ
timed_line (of_tables fault) = refusal_line fault
timed_line (of_times fault) = row_line (codes "timetable") fault.row (times_code fault.kind)

-- the reply of a command over tables and a timetable of their bids
abbrev pub TimedReply : AnswerTo Timed → Result Timed TimedFault → Reply → Type 0
TimedReply Answers read reply = ReplyTo timed_status timed_line Answers read reply

-- what is declined says why what was read is refused
pub record IsDeclined (read : Result Timed TimedFault) (declined : Declined) : Type 0 where
  pub fault : TimedFault
  pub is : read ≡ Err fault
  pub status : declined_status declined ≡ timed_status fault
  pub line : declined_line declined ≡ timed_line fault

-- a fault is a refusal with this line
abbrev pub IsDeclinedFault : List ℕ → Fault → Type 0
IsDeclinedFault line (Refused declined) = (declined_status declined ≡ refused_status) × (declined_line declined ≡ line)
IsDeclinedFault line (Read name) = ⊥
IsDeclinedFault line (Absent name) = ⊥
IsDeclinedFault line (TooLong name) = ⊥
IsDeclinedFault line Write = ⊥
IsDeclinedFault line Disk = ⊥
IsDeclinedFault line NoMemory = ⊥

-- a fault is that of what was read, or want of memory, which says nothing
abbrev pub EndsTimed : Result Timed TimedFault → Fault → Type 0
EndsTimed read (Refused declined) = IsDeclined read declined
EndsTimed read (Read name) = ⊥
EndsTimed read (Absent name) = ⊥
EndsTimed read (TooLong name) = ⊥
EndsTimed read Write = ⊥
EndsTimed read Disk = ⊥
EndsTimed read NoMemory = ⊤

-- a fault says what the reader of a timetable said
abbrev pub IsToldTimes : TimesError → Fault → Type 0
IsToldTimes (errors.Fault row kind) told = IsDeclinedFault (row_line (codes "timetable") row (times_code kind)) told
IsToldTimes errors.NoMemory told = told ≡ NoMemory
