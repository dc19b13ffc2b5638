use Rattle.std.proofs.Common.{sym, subst}
use Rattle.optra_text.specs.CommandForms.{IsSimple}
use Rattle.optra_text.proofs.Accepted.{auction_is_simple}
use Rattle.optra_text.proofs.words.read_auction.Goals as goal

pub matches_of-requires : goal.matches_of-requires
matches_of-requires c = subst IsSimple (sym c.in_ok-auction_command.ensures) auction_is_simple
