-- The check command: the file that it gets after the tables, and what it replies to the contents of its files.
use Rattle.std.specs.Prelude.{◌≡◌, ℕ, List, [], length, map, Option, Some, nat_eq, if◌then◌else◌}
use Rattle.optra_network.specs.Net.{Net}
use Rattle.optra_bid.specs.declared.bids.Bid.{Bid}
use Rattle.optra_tables.specs.Bids.{Parts, parts_of}
use Rattle.optra_text.specs.VerdictTexts.{verdict_text_of}
use Rattle.optra_text.specs.declared.verdicts.VerdictView.{VerdictView}
use Rattle.optra_text.specs.declared.verdicts.VerdictView.TheVariants.{Yes, No, Unreadable}
use Rattle.optra_frame.specs.declared.files.Role.TheVariants.{Certificate}
use Rattle.optra_frame.specs.Files.{Contents, File, content_of}
use Rattle.optra_frame.specs.Replies.{Reply}
use Rattle.optra_frame.specs.Statuses.{valid_status, denied_status}
use Rattle.optra_frame.specs.TableFiles.{TablesReply, Tables, all_tables, meaning_of, next_table_file}
use Rattle.optra_walk.specs.Families.{Entry}
use Rattle.optra_verdict.specs.Families.{OfVersion}
use Rattle.optra_verdict.specs.FamilyOf.{FamilyOf}
use Rattle.optra_verdict.specs.VerdictsOn.{IsVerdictOn}

-- ---- its files

-- the file of the certificate, which comes after the tables
abbrev pub certificate_file : List ℕ → File
certificate_file cert = record { role = Certificate; name = cert }

-- the next file after these; none once all are got
abbrev pub next_check_file : List ℕ → List ℕ → List ℕ → List ℕ → Contents → Option File
next_check_file net bids stops cert contents =
    if nat_eq (length contents) (length (all_tables contents)) then Some (certificate_file cert) else next_table_file net bids stops contents

-- the bytes of the certificate among the files
abbrev pub certificate_in : Contents → List ℕ
certificate_in contents = content_of contents Certificate

-- ---- the reply

-- one status exactly for a valid certificate
abbrev pub verdict_status : VerdictView → ℕ
verdict_status (Yes revenue bound) = valid_status
verdict_status (No reason) = denied_status
verdict_status (Unreadable row fault) = denied_status

-- The verdict on the bytes is printed, and nothing is put.
pub record PrintsVerdict {R : Type 0} (family : FamilyOf R) (Keeps : List Entry → Type 0) (bytes : List ℕ) (net : Net) (parts : List Parts) (status : ℕ) (text : List ℕ) (puts : List (List ℕ × List ℕ)) : Type 0 where
  pub bids : List Bid
  pub are_those : map parts_of bids ≡ parts
  pub verdict : VerdictView
  pub finds : IsVerdictOn family Keeps net bids bytes verdict
  pub printed : text ≡ verdict_text_of verdict
  pub ends : status ≡ verdict_status verdict
  pub put : puts ≡ []

-- the verdict by the rows of the tables' version
abbrev pub PrintsTablesVerdict : List ℕ → Tables → ℕ → List ℕ → List (List ℕ × List ℕ) → Type 0
PrintsTablesVerdict bytes tables status text puts =
    OfVersion tables.version tables.net (λ R family Keeps. PrintsVerdict family Keeps bytes tables.net tables.bids status text puts)

-- the reply to the contents of the files
abbrev pub CheckReplies : Contents → Reply → Type 0
CheckReplies contents reply = TablesReply (PrintsTablesVerdict (certificate_in contents)) (meaning_of contents) reply
