use Rattle.optra_prices.specs.Makings.{IsMaking}
use Rattle.optra_prices.specs.Standings.{HoldArcs}
use Rattle.optra_prices.proofs.sessions.make_tables.Given as goal

abbrev pub invariant-loop-number : goal.invariant-loop-number
invariant-loop-number g l = record {
  making : IsMaking l.inst.net.now (g.F.RowFamily.rows_of l.rows l.inst.net.now) (g.F.RowFamily.rows_used l.rows l.inst.net.now) l.making;
  tables : HoldArcs l.inst.net.now (g.F.RowFamily.rows_of l.rows l.inst.net.now) (g.F.RowFamily.rows_used l.rows l.inst.net.now) l.inst.bids.now l.number l.making.named.items l.making.groups l.tables.items;
}
