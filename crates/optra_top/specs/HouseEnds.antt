-- What ends the house command: the tables are refused, or the journal is, or a call of the disk failed.
use Rattle.std.specs.Prelude.{◌≡◌, Result, ⊤}
use Rattle.optra_outside.specs.Disk.{DiskState, HasCause}
use Rattle.optra_frame.specs.declared.fault.Fault.{Fault}
use Rattle.optra_frame.specs.declared.fault.Fault.TheVariants.{Refused, Read, Absent, TooLong, Write, Disk, NoMemory}
use Rattle.optra_frame.specs.Faults.{declined_line, declined_status}
use Rattle.optra_frame.specs.Replies.{Reply, refused}
use Rattle.optra_frame.specs.Statuses.{refused_status}

-- a fault of these replies, with the disk before and after: where the files are refused, the disk is as it was
abbrev pub EndsBy : (DiskState → DiskState → Reply → Type 0) → DiskState → DiskState → Fault → Type 0
EndsBy May before now (Refused declined) = May before now (refused (declined_status declined) (declined_line declined)) × (declined_status declined ≡ refused_status → now ≡ before)
EndsBy May before now (Read name) = ⊥
EndsBy May before now (Absent name) = ⊥
EndsBy May before now (TooLong name) = ⊥
EndsBy May before now Write = ⊥
EndsBy May before now Disk = HasCause before now
EndsBy May before now NoMemory = ⊤
