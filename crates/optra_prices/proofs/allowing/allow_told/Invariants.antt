use Rattle.optra_prices.specs.Rooms.{IsDecided}
use Rattle.optra_prices.proofs.AllowLemmas.{AreTablesUpTo, AreBroughtUpTo}
use Rattle.optra_prices.proofs.allowing.allow_told.Given as goal

abbrev pub invariant-loop-number : goal.invariant-loop-number
invariant-loop-number g l =
    let rows = g.F.RowFamily.rows_of l.rows l.inst.net.now in
    let numbered = l.grouping.numbering.now.rows.items in
    record {
      decided : IsDecided l.inst.net.now rows l.inst.bids.now numbered l.own.node l.decided;
      tables : AreTablesUpTo l.inst.net.now rows (g.F.RowFamily.rows_used l.rows l.inst.net.now) l.inst.bids.now l.own.node numbered l.grouping.groups.now l.number l.tables.items;
      brought : AreBroughtUpTo l.number l.fn.told.items l.told.items l.fn.tables.items l.tables.items;
    }
