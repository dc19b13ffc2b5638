use Rattle.std.proofs.Common.{sym, subst}
use Rattle.optra_text.specs.CommandForms.{IsSimple}
use Rattle.optra_text.proofs.Accepted.{house_is_simple}
use Rattle.optra_text.proofs.words.read_house.Goals as goal

pub matches_of-requires : goal.matches_of-requires
matches_of-requires c = subst IsSimple (sym c.in_ok-house_command.ensures) house_is_simple
