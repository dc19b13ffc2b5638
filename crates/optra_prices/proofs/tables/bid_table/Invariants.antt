use Rattle.std.proofs.Common.{◌≡◌, length}
use Rattle.optra_prices.specs.Makings.{IsMaking, Grows}
use Rattle.optra_prices.specs.Terms.{AreTerms}
use Rattle.optra_prices.proofs.tables.bid_table.Given as goal

abbrev pub invariant-loop-k : goal.invariant-loop-k
invariant-loop-k g l = record {
  making : IsMaking l.net (g.F.RowFamily.rows_of l.rows l.net) (g.F.RowFamily.rows_used l.rows l.net) l.making;
  grows : Grows l.initial.making l.making;
  count : length l.arcs ≡ l.k;
  terms : AreTerms l.net (g.F.RowFamily.rows_of l.rows l.net) (g.F.RowFamily.rows_used l.rows l.net) l.bid l.graph l.making.named.items l.making.groups.starts.items l.making.groups.touches l.arcs;
}
