-- How a run ends: what it got, put, printed and said. Each ending speaks of the outside before the run and now.
use Rattle.std.specs.Prelude.{◌≡◌, ◌⊎◌, ℕ, List, true}
use Rattle.optra_outside.specs.Counts.{Rose}
use Rattle.optra_outside.specs.Disk.{DiskState}
use Rattle.optra_outside.specs.Pen.{Wrote, WrotePart}
use Rattle.optra_outside.specs.Shelf.{ShelfState}
use Rattle.optra_outside.specs.declared.shelves.ShelfError.{ShelfError}
use Rattle.optra_outside.specs.declared.shelves.ShelfError.TheVariants.{Failed, Absent, TooLong}
use Rattle.optra_text.specs.FaultLines.{usage_line, read_line, absent_line, too_long_line, write_line, disk_line, memory_line}
use Rattle.optra_frame.specs.Commands.{AsksAnd, IfAsks, Meaning, IsNoForm, NoFormAnd, Request}
use Rattle.optra_frame.specs.Files.{Contents, HoldsAll}
use Rattle.optra_frame.specs.Gets.{AreWhole, Refuses}
use Rattle.optra_frame.specs.Outside.{Outside, RunLeaves, PutAll, IsSilent, Says}
use Rattle.optra_frame.specs.Puts.{PutPart}
use Rattle.optra_frame.specs.Replies.{Reply, refused, answered}
use Rattle.optra_frame.specs.Statuses.{usage_status, refused_status, read_status, absent_status, write_status, memory_status, too_long_status, journal_status, disk_status, IsRefusedStatus, IsFaultStatus}

-- ---- the endings

-- The command got these contents of its files, all of them, and this is its reply to them.
pub record Replies (command : Meaning) (before now : Outside) (contents : Contents) (reply : Reply) : Type 0 where
  pub whole : AreWhole command contents
  pub held : before.shelf.tells ≡ true → HoldsAll before.shelf contents
  pub replies : command.MayReply contents before.disk now.disk reply

-- All files of the command's reply were put, its whole text was printed, and no line was said.
pub record IsDone (command : Meaning) (before now : Outside) (status : ℕ) : Type 0 where
  pub contents : Contents
  pub text : List ℕ
  pub puts : List (List ℕ × List ℕ)
  pub replied : Replies command before now contents (answered status text puts)
  pub done : command.IsDoneStatus status
  pub shelf : RunLeaves before.shelf now.shelf
  pub put : PutAll before.shelf now.shelf puts
  pub out : Wrote before.out now.out text
  pub quiet : now.err ≡ before.err

-- The command refused the contents of its files, or its journal, with this status and this line. Where the files are refused, the
-- disk is as it was.
pub record IsRefusal (command : Meaning) (before now : Outside) (status : ℕ) (line : List ℕ) : Type 0 where
  pub contents : Contents
  pub replied : Replies command before now contents (refused status line)
  pub silent : IsSilent before now
  pub disk : status ≡ refused_status → now.disk ≡ before.disk

-- The get of this name was refused, for a reason that has its cause. The disk is as it was.
pub record IsMissing (command : Meaning) (before now : Outside) (why : ShelfError) (name : List ℕ) : Type 0 where
  pub refuses : Refuses command before.shelf now.shelf why name
  pub silent : IsSilent before now
  pub disk : now.disk ≡ before.disk

-- A call of the disk failed, after the command got all its files. Nothing was put or printed.
pub record IsDiskFault (command : Meaning) (before now : Outside) : Type 0 where
  pub contents : Contents
  pub whole : AreWhole command contents
  pub held : before.shelf.tells ≡ true → HoldsAll before.shelf contents
  pub uses : command.UsesDisk
  pub cause : Rose before.disk.faults now.disk.faults
  pub silent : IsSilent before now

-- A put failed: a first part of the files was put, and nothing was printed.
pub record PutFails (before now : Outside) (puts : List (List ℕ × List ℕ)) : Type 0 where
  pub part : PutPart before.shelf now.shelf puts
  pub out : now.out ≡ before.out

-- The output failed: all files were put, and a first part of the text was printed.
pub record OutFails (before now : Outside) (puts : List (List ℕ × List ℕ)) (text : List ℕ) : Type 0 where
  pub put : PutAll before.shelf now.shelf puts
  pub part : WrotePart before.out now.out text
  pub cause : Rose before.out.faults now.out.faults

-- A put of the command's reply failed, or the output did.
pub record IsWriteFault (command : Meaning) (before now : Outside) : Type 0 where
  pub contents : Contents
  pub status : ℕ
  pub text : List ℕ
  pub puts : List (List ℕ × List ℕ)
  pub replied : Replies command before now contents (answered status text puts)
  pub shelf : RunLeaves before.shelf now.shelf
  pub cause : PutFails before now puts ⊎ OutFails before now puts text

-- ---- what each status says

-- A run of words that ask for this ended with the status.
pub record Ends (request : Request) (before now : Outside) (status : ℕ) : Type 0 where
  -- the command did its work: its files are put, its whole text is printed, and no line is said
  pub done : (IsFaultStatus status → ⊥) → AsksAnd request (λ command. IsDone command before now status)
  -- the words are no command form, and nothing else happened
  pub usage : status ≡ usage_status → NoFormAnd request (λ forms.
      (now.shelf ≡ before.shelf) × (now.out ≡ before.out) × Says before now (usage_line forms))
  -- the contents of the files are refused, or the journal is
  pub refused_so : IsRefusedStatus status → AsksAnd request (λ command. (line : List ℕ)
      × IsRefusal command before now status line × Says before now line)
  -- a file could not be read, isn't there or is too long
  pub read : status ≡ read_status → AsksAnd request (λ command. (name : List ℕ)
      × IsMissing command before now Failed name × Says before now (read_line name))
  pub absent : status ≡ absent_status → AsksAnd request (λ command. (name : List ℕ)
      × IsMissing command before now Absent name × Says before now (absent_line name))
  pub too_long : status ≡ too_long_status → AsksAnd request (λ command. (name : List ℕ)
      × IsMissing command before now TooLong name × Says before now (too_long_line name))
  -- a put failed, or the output did
  pub write : status ≡ write_status → AsksAnd request (λ command.
      IsWriteFault command before now × Says before now write_line)
  -- a call of the disk failed
  pub disk_failed : status ≡ disk_status → AsksAnd request (λ command.
      IsDiskFault command before now × Says before now disk_line)
  -- memory ran out
  pub memory : status ≡ memory_status → IsSilent before now × Says before now memory_line

-- ---- which input is answered

-- The shelf tells and holds each file of the command, within its limit.
pub record Holds (command : Meaning) (shelf : ShelfState) (contents : Contents) : Type 0 where
  pub tells : shelf.tells ≡ true
  pub whole : AreWhole command contents
  pub held : HoldsAll shelf contents

-- The shelf tells and holds each file of the command, and their contents are refused with this status and line. Whether a journal is
-- refused is known where the disk tells it.
pub record IsRefused (command : Meaning) (before : Outside) (status : ℕ) (line : List ℕ) : Type 0 where
  pub contents : Contents
  pub holds : Holds command before.shelf contents
  pub disk : DiskState
  pub refuses : command.MayReply contents before.disk disk (refused status line)
  pub told : status ≡ journal_status → before.disk.tells ≡ true

-- The shelf tells and holds each file of the command, and their contents are not refused.
pub record IsValid (command : Meaning) (before : Outside) : Type 0 where
  pub contents : Contents
  pub holds : Holds command before.shelf contents
  pub accepted : (status : ℕ) (line : List ℕ) (disk : DiskState) → ¬ (command.MayReply contents before.disk disk (refused status line))

-- No read failed; nor did a call of the disk, where the command calls it.
pub record NoReadFaults (command : Meaning) (before now : Outside) : Type 0 where
  pub read : ¬ (Rose before.shelf.read_faults now.shelf.read_faults)
  pub disk : command.UsesDisk → ¬ (Rose before.disk.faults now.disk.faults)

-- Nor did a write to the shelf or to the output.
pub record NoFaults (command : Meaning) (before now : Outside) : Type 0 where
  pub reads : NoReadFaults command before now
  pub write : ¬ (Rose before.shelf.write_faults now.shelf.write_faults)
  pub out : ¬ (Rose before.out.faults now.out.faults)

-- A run of words that ask for this is answered with the status where that is due, unless memory runs out.
pub record Completes (request : Request) (before now : Outside) (status : ℕ) : Type 0 where
  -- words that are no command form are answered as such
  pub no_form : IsNoForm request → (status ≡ usage_status) ⊎ (status ≡ memory_status)
  -- contents that are refused are answered as such, unless a read fails
  pub refuses : IfAsks request (λ command. NoReadFaults command before now → (due : ℕ) (line : List ℕ)
      → IsRefused command before due line → ((status ≡ due) × Says before now line) ⊎ (status ≡ memory_status))
  -- valid input is answered, unless the outside fails
  pub complete : IfAsks request (λ command. NoFaults command before now → IsValid command before
      → command.IsDoneStatus status ⊎ (status ≡ memory_status))
