use Rattle.std.proofs.Common.{◌%◌, subst}
use Rattle.optra_outside.specs.Disk.{MayLeave}
use Rattle.optra_outside.specs.MemoryDisk.{file_of, crash_image, DiskMemory}
use Rattle.optra_outside.proofs.Filled.{file_possible}
use Rattle.optra_outside.proofs.memory_disk.MemoryDisk.crash.Goals as goal

pub returns-clause-possible : goal.returns-clause-possible
returns-clause-possible c =
    subst (λ (m : DiskMemory). MayLeave m.file.now (crash_image (m.calls % 2) m.file.now)) c.self.view_is
    (file_possible (file_of c.self.inside.first.items c.self.inside.pieces.items c.self.inside.kept.items) c.self.inside.bytes.items c.self.inside.synced c.self.inside.written.items (c.self.inside.calls % 2) c.self.invariant.0)
