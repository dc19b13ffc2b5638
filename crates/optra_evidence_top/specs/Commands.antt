-- What the words ask for.
use Rattle.std.specs.Prelude.{◌≡◌, ◌⊎◌, List, Option, None, Some, map, String, string_bytes}
use Rattle.std.specs.declared.alloc.Global.{Global}
use Rattle.optra_text.specs.EvidenceWords.{evidence_words}
use Rattle.optra_text.specs.declared.evidence_words.EvidenceWords.{EvidenceWords}
use Rattle.optra_text.specs.declared.evidence_words.TheConstants.{EVIDENCE_FORM}
use Rattle.optra_frame.specs.Commands.{Meaning, Request, asks, no_form}
use Rattle.optra_frame.specs.Statuses.{denied_status, valid_status}
use Rattle.optra_verdict.specs.CheckCommand.{next_check_file}
use Rattle.optra_evidence_top.specs.EvidenceCommand.{EvidenceReplies}

-- what it is, as a command of a program: it gets the files of a check, and never calls the disk
abbrev pub command_of : EvidenceWords → Meaning
command_of words = record {
  next_file = next_check_file words.net words.bids words.stops words.cert;
  MayReply = λ contents before now reply. EvidenceReplies contents reply;
  IsDoneStatus = λ status. (status ≡ valid_status) ⊎ (status ≡ denied_status);
  UsesDisk = ⊥;
}

-- what words that were read, or aren't of the form, ask for
abbrev pub request_of : Option EvidenceWords → Request
request_of None = no_form EVIDENCE_FORM.now
request_of (Some words) = asks (command_of words)

-- what these words ask for
abbrev pub asked : List (String Global) → Request
asked words = request_of (evidence_words (map string_bytes words))
