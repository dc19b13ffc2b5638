-- There is one play.
use Rattle.optra_top.proofs.AuctionLemmas.{one_tables_play}
use Rattle.optra_top.proofs.laws.one_play.Goals as goal

pub returns : goal.returns
returns c = one_tables_play
