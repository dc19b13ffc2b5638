-- The command keeps to the laws of commands.
use Rattle.std.proofs.Common.{◌≡◌, ◌⊎◌, ℕ, inl, inr, arith}
use Rattle.optra_text.specs.FaultLines.{refusal_line}
use Rattle.optra_text.specs.declared.evidence_words.EvidenceWords.{EvidenceWords}
use Rattle.optra_frame.specs.CommandLaws.{HasRefusedAlone, IsLawful}
use Rattle.optra_frame.specs.Statuses.{IsFaultStatus, denied_status, valid_status}
use Rattle.optra_frame.specs.TableFiles.{meaning_of, table_status}
use Rattle.optra_frame.proofs.RefusalLemmas.{refused-alone}
use Rattle.optra_verdict.specs.CheckCommand.{certificate_in}
use Rattle.optra_evidence_top.specs.Commands.{command_of}
use Rattle.optra_evidence_top.specs.EvidenceCommand.{PrintsTablesEvidence}

done-no_fault : (status : ℕ) → (status ≡ valid_status) ⊎ (status ≡ denied_status) → IsFaultStatus status → ⊥
done-no_fault status (inl a) fault = absurd (omega arith)
done-no_fault status (inr a) fault = absurd (omega arith)

refused-only : (words : EvidenceWords) → HasRefusedAlone (command_of words)
refused-only words contents before now now' status line reply told refuses replies =
    refused-alone table_status refusal_line (PrintsTablesEvidence (certificate_in contents)) (meaning_of contents) status line reply refuses replies

pub is-lawful : (words : EvidenceWords) → IsLawful (command_of words)
is-lawful words = record { done_apart = λ status done fault. done-no_fault status done fault; refused_alone = refused-only words }
