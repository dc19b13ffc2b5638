-- What a command is, whatever program it is one of; and what words ask a program for.
use Rattle.std.specs.Prelude.{ℕ, List, Option, ⊤}
use Rattle.optra_outside.specs.Disk.{DiskState}
use Rattle.optra_frame.specs.Files.{Contents, File}
use Rattle.optra_frame.specs.Replies.{Reply}

-- A command: the file that it gets after those that it got, none once it has got all; what it may reply to their contents, with the
-- disk before and after; the statuses of one that did its work; and whether it calls the disk.
pub record Meaning : Type 1 where
  pub next_file : Contents → Option File
  pub MayReply : Contents → DiskState → DiskState → Reply → Type 0
  pub IsDoneStatus : ℕ → Type 0
  pub UsesDisk : Type 0

-- What words ask a program for: one of its commands; or nothing, where they are none of its forms, which its usage line shows.
pub data Request : Type 1 where
  asks : Meaning → Request
  no_form : List ℕ → Request

-- a command is asked for, and this holds of it
abbrev pub AsksAnd : Request → (Meaning → Type 0) → Type 0
AsksAnd (asks command) P = P command
AsksAnd (no_form forms) P = ⊥

-- this holds of the command, where one is asked for
abbrev pub IfAsks : Request → (Meaning → Type 0) → Type 0
IfAsks (asks command) P = P command
IfAsks (no_form forms) P = ⊤

-- the words are no command form, and this holds of the forms
abbrev pub NoFormAnd : Request → (List ℕ → Type 0) → Type 0
NoFormAnd (asks command) P = ⊥
NoFormAnd (no_form forms) P = P forms

-- the words are no command form
abbrev pub IsNoForm : Request → Type 0
IsNoForm (asks command) = ⊥
IsNoForm (no_form forms) = ⊤
