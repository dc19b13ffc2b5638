use Rattle.std.proofs.Common.{List}
use Rattle.optra_prices.specs.Keepings.{AreBrought}
use Rattle.optra_prices.specs.declared.numbering.BidTable.{BidTable}
use Rattle.optra_prices.proofs.StandLemmas.{StandMixed}
use Rattle.optra_prices.proofs.sessions.renew_all.Given as goal

abbrev pub invariant-loop-number : goal.invariant-loop-number
invariant-loop-number l = (before : List BidTable) × AreBrought l.changed before l.tables × StandMixed before l.tables l.grouped.prices.now l.grouped.prices.now l.number l.standings.items
