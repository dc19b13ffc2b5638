-- What every command of a program keeps to.
use Rattle.std.specs.Prelude.{◌≡◌, ℕ, List, true}
use Rattle.optra_outside.specs.Disk.{DiskState}
use Rattle.optra_frame.specs.Commands.{Meaning}
use Rattle.optra_frame.specs.Files.{Contents}
use Rattle.optra_frame.specs.Replies.{Reply, refused}
use Rattle.optra_frame.specs.Statuses.{IsFaultStatus, journal_status}

-- Where contents are refused, and it is known what is due, there is no other reply to them. Over a disk that doesn't tell, a journal
-- that may be refused may be answered too.
abbrev pub HasRefusedAlone : Meaning → Type 0
HasRefusedAlone command =
    (contents : Contents) (before now now' : DiskState) (status : ℕ) (line : List ℕ) (reply : Reply)
    → (status ≡ journal_status → before.tells ≡ true)
    → command.MayReply contents before now (refused status line) → command.MayReply contents before now' reply → reply ≡ refused status line

-- a status of a command that did its work is none of a fault; and what is refused has no other reply
pub record IsLawful (command : Meaning) : Type 0 where
  pub done_apart : (status : ℕ) → command.IsDoneStatus status → ¬ (IsFaultStatus status)
  pub refused_alone : HasRefusedAlone command
