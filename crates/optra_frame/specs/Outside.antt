-- The outside of a run: its shelf, its output, its error line and its disk. A further device is a field more here.
use Rattle.std.specs.Prelude.{◌≡◌, ℕ, ◌≤◌, ◌⊎◌, List, true}
use Rattle.optra_outside.specs.Counts.{Rose}
use Rattle.optra_outside.specs.Pen.{PenState, Wrote, WrotePart}
use Rattle.optra_outside.specs.Shelf.{ShelfState, GetLeaves}
use Rattle.optra_outside.specs.Disk.{DiskState}
use Rattle.optra_frame.specs.Puts.{put_in_order}

pub record Outside : Type 0 where
  pub shelf : ShelfState
  pub out : PenState
  pub err : PenState
  pub disk : DiskState

-- the outside of these four
abbrev pub outside_of : ShelfState → PenState → PenState → DiskState → Outside
outside_of shelf out err disk = record { shelf = shelf; out = out; err = err; disk = disk }

-- What gets and puts leave of a shelf, whatever was put.
pub record RunLeaves (before now : ShelfState) : Type 0 where
  pub told : now.tells ≡ true → before.tells ≡ true
  pub limit : now.limit ≡ before.limit
  pub read_faults : before.read_faults ≤ now.read_faults
  pub write_faults : before.write_faults ≤ now.write_faults
  pub absences : before.absences ≤ now.absences
  pub overlong : before.overlong ≤ now.overlong

-- All these files were put, in order, and the shelf holds nothing else that it didn't hold.
abbrev pub PutAll : ShelfState → ShelfState → List (List ℕ × List ℕ) → Type 0
PutAll before now puts = now.tells ≡ true → now.files ≡ put_in_order puts before.files

-- The shelf holds what it held, and nothing was printed.
pub record IsSilent (before now : Outside) : Type 0 where
  pub shelf : GetLeaves before.shelf now.shelf
  pub out : now.out ≡ before.out

-- The line was written, or a first part of it where a write failed.
abbrev pub SaysLine : PenState → PenState → List ℕ → Type 0
SaysLine before now line = Wrote before now line ⊎ (WrotePart before now line × Rose before.faults now.faults)

-- The line was written on the error pen.
abbrev pub Says : Outside → Outside → List ℕ → Type 0
Says before now line = SaysLine before.err now.err line
