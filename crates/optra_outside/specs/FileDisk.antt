-- A disk over a real file.
use Rattle.std.specs.Prelude.{true, false, [], is_some, Result, Ok, Err}
use Rattle.optra_outside.specs.Counts.{raised}
use Rattle.optra_outside.specs.Disk.{DiskState}
use Rattle.optra_outside.specs.declared.disks.DiskError.{DiskError}
use Rattle.optra_outside.specs.declared.disks.DiskError.TheVariants.{Failed, NoMemory}
use Rattle.optra_outside.specs.declared.disks.DiskFailed.{DiskFailed}
use Rattle.optra_outside.specs.declared.file_disk.FileDisk.{FileDisk}

-- it tells nothing of its file
abbrev pub file_state : {R F D : Type 0} → FileDisk R F D → DiskState
file_state disk = record {
  tells = false;
  chosen = is_some disk.file;
  name = [];
  faults = disk.faults;
  file = record { now = record { bytes = []; grown = 0; written = [] }; past = [] };
}

-- after a call that failed
abbrev pub after_fault : DiskState → DiskState
after_fault s = record s { faults = raised s.faults }

-- the disk after a choose: each failure raises the count
abbrev pub after_choose : {T : Type 0} → DiskState → Result T DiskFailed → DiskState
after_choose s (Ok done) = record s { chosen = true }
after_choose s (Err why) = after_fault s

-- after a len, a write_at or a sync
abbrev pub after_call : {T : Type 0} → DiskState → Result T DiskFailed → DiskState
after_call s (Ok done) = s
after_call s (Err why) = after_fault s

-- after a read, which fails in two ways
abbrev pub after_read : {T : Type 0} → DiskState → Result T DiskError → DiskState
after_read s (Ok bytes) = s
after_read s (Err Failed) = after_fault s
after_read s (Err NoMemory) = s
