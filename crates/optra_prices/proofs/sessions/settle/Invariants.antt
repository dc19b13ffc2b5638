use Rattle.std.proofs.Common.{List}
use Rattle.std.specs.Prelude.{ℤ}
use Rattle.optra_prices.specs.Columns.{MarksTell}
use Rattle.optra_prices.proofs.StandLemmas.{StandMixed}
use Rattle.optra_prices.proofs.sessions.settle.Given as goal

abbrev pub invariant-loop-number : goal.invariant-loop-number
invariant-loop-number l = (old : List ℤ) × StandMixed l.tables l.tables old l.grouped.prices.now l.number l.standings.items × MarksTell old l.grouped.prices.now l.marks
