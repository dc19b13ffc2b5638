-- A disk in memory.
use Rattle.std.specs.Prelude.{◌≡◌, ℕ, ◌+◌, ◌-◌, ◌≤◌, List, [], length, map, take, drop, replicate, Bool, true, false, ◌||◌, ⊤, nat_eq, nat_lt, if◌then◌else◌, Option, Some, None, refl}
use Rattle.std.specs.List.{AllByRecursion, fold}
use Rattle.std.specs.FinSet as set
use Rattle.std.specs.Coded.{Coded, code_by, coded×, coded_ℕ, coded_bool, coded_list, coded_option}
use Rattle.optra_outside.specs.Counts.{raised}
use Rattle.optra_outside.specs.CallNumbers.{NumberSet}
use Rattle.optra_outside.specs.Disk.{Range, Moment, File, DiskState, overwritten, after_write, after_sync}
use Rattle.optra_outside.specs.declared.memory_disk.Span.{Span}
use Rattle.optra_outside.specs.declared.memory_disk.Kept.{Kept}
use Rattle.optra_outside.specs.declared.memory_disk.Kept.TheVariants.{Choose, Write, Sync}

-- its file, what it was made with, how much room the kept calls took, its counts, and how many calls are left
-- where its service is to end
pub record DiskMemory : Type 0 where
  pub chosen : Bool
  pub name : List ℕ
  pub file : File
  pub room : ℕ
  pub fails : NumberSet
  pub used : ℕ
  pub calls : ℕ
  pub faults : ℕ
  pub left : Option ℕ

-- a range as the pair of its fields, a moment and a file in the same way
abbrev pub range_code : Coded Range
range_code = code_by (ℕ × ℕ) (coded× coded_ℕ coded_ℕ) (λ r. (r.at, r.count)) (λ p. record { at = p.0; count = p.1 }) (λ _. refl)

abbrev pub moment_code : Coded Moment
moment_code =
    code_by (List ℕ × (ℕ × List Range)) (coded× (coded_list coded_ℕ) (coded× coded_ℕ (coded_list range_code)))
    (λ m. (m.bytes, (m.grown, m.written))) (λ p. record { bytes = p.0; grown = p.1.0; written = p.1.1 }) (λ _. refl)

abbrev pub file_code : Coded File
file_code = code_by (Moment × List Moment) (coded× moment_code (coded_list moment_code)) (λ f. (f.now, f.past)) (λ p. record { now = p.0; past = p.1 }) (λ _. refl)

-- a disk as its parts, one after another
abbrev pub memory_code : Coded DiskMemory
memory_code =
    code_by (Bool × (List ℕ × (File × (ℕ × (NumberSet × (ℕ × (ℕ × (ℕ × Option ℕ))))))))
    (coded× coded_bool (coded× (coded_list coded_ℕ) (coded× file_code (coded× coded_ℕ (coded× (set.code coded_ℕ) (coded× coded_ℕ (coded× coded_ℕ (coded× coded_ℕ (coded_option coded_ℕ)))))))))
    (λ m. (m.chosen, (m.name, (m.file, (m.room, (m.fails, (m.used, (m.calls, (m.faults, m.left)))))))))
    (λ p. record {
      chosen = p.0;
      name = p.1.0;
      file = p.1.1.0;
      room = p.1.1.1.0;
      fails = p.1.1.1.1.0;
      used = p.1.1.1.1.1.0;
      calls = p.1.1.1.1.1.1.0;
      faults = p.1.1.1.1.1.1.1.0;
      left = p.1.1.1.1.1.1.1.1;
    })
    (λ _. refl)

-- it always tells
abbrev pub disk_state : DiskMemory → DiskState
disk_state m = record { tells = true; chosen = m.chosen; name = m.name; faults = m.faults; file = m.file }

-- a file with these bytes, all of them on the disk, and no past
abbrev pub found : List ℕ → File
found bytes = record { now = record { bytes = bytes; grown = 0; written = [] }; past = [] }

-- the file after a call that was kept, whose piece stands among the pieces
abbrev pub after_kept : List ℕ → File → Kept → File
after_kept pieces file Choose = file
after_kept pieces file (Write piece) = after_write piece.at (drop piece.start (take piece.end pieces)) file
after_kept pieces file Sync = after_sync file

-- the file after all the calls that were kept
abbrev pub file_of : List ℕ → List ℕ → List Kept → File
file_of first pieces kept = fold (after_kept pieces) (found first) kept

-- the piece of the call stands among so many bytes
abbrev pub StandsWithin : ℕ → Kept → Type 0
StandsWithin len Choose = ⊤
StandsWithin len (Write piece) = piece.end ≤ len
StandsWithin len Sync = ⊤

abbrev pub range_of : Span → Range
range_of span = record { at = span.at; count = span.count }

-- the range ends within so many bytes
abbrev pub EndsBy : ℕ → Range → Type 0
EndsBy len range = range.at + range.count ≤ len

-- what is held is the file
pub record IsHeld (file : File) (bytes : List ℕ) (synced : ℕ) (written : List Span) : Type 0 where
  pub bytes_are : file.now.bytes ≡ bytes
  pub synced_is : file.now.grown + synced ≡ length bytes
  pub written_are : file.now.written ≡ map range_of written
  pub within : AllByRecursion (EndsBy (length bytes)) file.now.written

-- no service is left
abbrev pub is_ended : Option ℕ → Bool
is_ended None = false
is_ended (Some n) = nat_eq n 0

-- one call less is left
abbrev pub one_less : Option ℕ → Option ℕ
one_less None = None
one_less (Some n) = Some (n - 1)

-- the next call fails by its number, or as the service has ended
abbrev pub call_fails : DiskMemory → Bool
call_fails m = is_ended m.left || set.contains m.fails (raised m.calls)

-- the next call fails so, or has no room, where it is to be kept with so many bytes
abbrev pub keeping_fails : DiskMemory → ℕ → Bool
keeping_fails m size = call_fails m || nat_lt m.room (m.used + (64 + size))

-- the disk after a call that failed
abbrev pub after_fault : DiskMemory → DiskMemory
after_fault m = record m { calls = raised m.calls; left = one_less m.left; faults = raised m.faults }

-- after a len or a read
abbrev pub after_look : DiskMemory → DiskMemory
after_look m = if call_fails m then after_fault m else record m { calls = raised m.calls; left = one_less m.left }

-- after a choose
abbrev pub after_choose : DiskMemory → List ℕ → DiskMemory
after_choose m name =
    if keeping_fails m (length name) then after_fault m
    else record m { calls = raised m.calls; left = one_less m.left; used = m.used + (64 + length name); chosen = true; name = name }

-- after a write_at
abbrev pub after_write_at : DiskMemory → ℕ → List ℕ → DiskMemory
after_write_at m at piece =
    if keeping_fails m (length piece) then after_fault m
    else record m { calls = raised m.calls; left = one_less m.left; used = m.used + (64 + length piece); file = after_write at piece m.file }

-- after a sync
abbrev pub after_sync_call : DiskMemory → DiskMemory
after_sync_call m =
    if keeping_fails m 0 then after_fault m
    else record m { calls = raised m.calls; left = one_less m.left; used = m.used + 64; file = after_sync m.file }

-- a range of which each place holds one byte
abbrev pub filled : ℕ → List ℕ → Range → List ℕ
filled byte bytes range = overwritten range.at (replicate range.count byte) bytes

-- What a crash leaves here: the ranges written since the last sync hold one byte, 0 or 1. With 0 the file is as
-- long as it was at that sync, and with 1, as if gates were open, as long as it is.
abbrev pub crash_image : ℕ → Moment → List ℕ
crash_image byte moment =
    take (if nat_eq byte 0 then length moment.bytes - moment.grown else length moment.bytes) (fold (filled byte) moment.bytes moment.written)
