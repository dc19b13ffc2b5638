-- What a disk is, and what its calls do to its file.
use Rattle.std.specs.Prelude.{◌≡◌, ◌⊎◌, ℕ, ◌+◌, ◌-◌, ◌<◌, ◌≤◌, List, [], ◌∷◌, ◌++◌, length, get_or, take, drop, Bool, true}
use Rattle.std.specs.List.{AllByRecursion}
use Rattle.optra_outside.specs.Counts.{Rose}

-- so many places of a file, from one on
pub record Range : Type 0 where
  pub at : ℕ
  pub count : ℕ

-- the place isn't in the range
abbrev pub Misses : ℕ → Range → Type 0
Misses place range = (place < range.at) ⊎ (range.at + range.count ≤ place)

-- A file at one moment: what a read gives, by how much it grew since the last sync that succeeded, and the
-- ranges written since that sync.
pub record Moment : Type 0 where
  pub bytes : List ℕ
  pub grown : ℕ
  pub written : List Range

-- What a crash at that moment may leave. A file never gets shorter, so its length is the greatest since the
-- sync: a crash leaves any length from the one at the sync up to this one. The ranges written since may hold
-- any bytes, and all other bytes stay.
pub record MayLeave (moment : Moment) (image : List ℕ) : Type 0 where
  pub no_shorter : length moment.bytes ≤ length image + moment.grown
  pub no_longer : length image ≤ length moment.bytes
  pub others_stay : (place : ℕ) → place < length image → AllByRecursion (Misses place) moment.written → get_or image place 0 ≡ get_or moment.bytes place 0

-- all of the file is on the disk
pub record IsSynced (moment : Moment) : Type 0 where
  pub grown : moment.grown ≡ 0
  pub written : moment.written ≡ []

-- A file now, and its moments before, the newest first. A moment is given by how many came before it.
pub record File : Type 0 where
  pub now : Moment
  pub past : List Moment

abbrev pub moment_number : File → ℕ
moment_number file = length file.past

-- what a crash at one of these moments might have left
abbrev pub LeftAtOne : List Moment → List ℕ → Type 0
LeftAtOne [] image = ⊥
LeftAtOne (moment ∷ moments) image = MayLeave moment image ⊎ LeftAtOne moments image

-- what a crash at some moment from the given one on might have left
abbrev pub LeftSince : File → ℕ → List ℕ → Type 0
LeftSince file since image = MayLeave file.now image ⊎ LeftAtOne (take (length file.past - since) file.past) image

-- a new moment
abbrev pub at_next : File → Moment → File
at_next file moment = record { now = moment; past = file.now ∷ file.past }

-- the bytes with a piece written over them, or past their end
abbrev pub overwritten : ℕ → List ℕ → List ℕ → List ℕ
overwritten at piece bytes = take at bytes ++ (piece ++ drop (at + length piece) bytes)

-- the file after a write
abbrev pub after_write : ℕ → List ℕ → File → File
after_write at piece file =
    let bytes = overwritten at piece file.now.bytes in
    at_next file (record {
      bytes = bytes;
      grown = file.now.grown + (length bytes - length file.now.bytes);
      written = file.now.written ++ record { at = at; count = length piece } ∷ [];
    })

-- the file after a sync
abbrev pub after_sync : File → File
after_sync file = at_next file (record { bytes = file.now.bytes; grown = 0; written = [] })

-- After a write of so many bytes that failed: nothing was written, or any bytes in their range.
abbrev pub AfterFailedWrite : ℕ → ℕ → File → File → Type 0
AfterFailedWrite at count before now = (now ≡ before) ⊎ ((piece : List ℕ) × (length piece ≤ count) × (now ≡ after_write at piece before))

-- A disk: whether it tells its file, whether a file was chosen, the chosen name, how often a call failed, and
-- the file. Of a disk that doesn't tell, `name` and `file` say nothing.
pub record DiskState : Type 0 where
  pub tells : Bool
  pub chosen : Bool
  pub name : List ℕ
  pub faults : ℕ
  pub file : File

-- what every call leaves
pub record Leaves (before now : DiskState) : Type 0 where
  pub tells : now.tells ≡ before.tells
  pub faults : before.faults ≤ now.faults

-- where the disk tells, its file stays
abbrev pub KeepsFile : DiskState → DiskState → Type 0
KeepsFile before now = before.tells ≡ true → now.file ≡ before.file

-- a call that failed raised the count of faults
abbrev pub HasCause : DiskState → DiskState → Type 0
HasCause before now = Rose before.faults now.faults

-- the same file is chosen, or none
pub record SameChosen (before now : DiskState) : Type 0 where
  pub chosen : now.chosen ≡ before.chosen
  pub name : now.name ≡ before.name
