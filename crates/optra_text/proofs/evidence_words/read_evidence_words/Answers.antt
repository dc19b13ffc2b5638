use Rattle.std.proofs.Common.{sym, subst}
use Rattle.optra_text.specs.CommandForms.{IsSimple}
use Rattle.optra_text.proofs.EvidenceForm.{evidence_is_simple}
use Rattle.optra_text.proofs.evidence_words.read_evidence_words.Goals as goal

pub matches_of-requires : goal.matches_of-requires
matches_of-requires c = subst IsSimple (sym c.in_ok-evidence_command.ensures) evidence_is_simple
