-- The form of the program that gives evidence is simple.
use Rattle.std.proofs.Common.{refl}
use Rattle.clap.proofs.OnLiterals.{clap_on_literals}
use Rattle.optra_text.specs.CommandForms.{IsSimple}
use Rattle.optra_text.specs.EvidenceWords.{evidence_app}

pub evidence_is_simple : IsSimple evidence_app
unfolding clap_on_literals
evidence_is_simple = record { simple = refl; free = refl }
