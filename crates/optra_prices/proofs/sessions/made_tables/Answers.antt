-- Tables serve when the rows that they name by place get numbers.
use Rattle.std.proofs.Common.{length}
use Rattle.optra_prices.proofs.RenumberLemmas.{tables_renumbered, all_renumbered}
use Rattle.optra_prices.proofs.sessions.made_tables.Goals as goal

pub returns : goal.returns
returns g c =
    let net = c.args.inst.net.now in
    let f = c.args.rows.now in
    let rows = g.F.RowFamily.rows_of f net in
    let used = g.F.RowFamily.rows_used f net in
    let bids = c.args.inst.bids.now in
    let making = c.make_tables.new.making in
    let numbered = c.in_ok-numbered.numbered in
    let is = c.in_ok-numbered.ensures in
    let made = c.in_ok-tables.ensures in
    record {
      numbering = is.numbering;
      rows_are = is.rows_are;
      groups_are = all_renumbered making.named.items numbered.numbering.rows.items making.groups numbered.groups is.starts_are is.renumbers made.making.groups_are;
      tables = tables_renumbered net rows used bids (length bids) making.named.items numbered.numbering.rows.items making.groups numbered.groups c.in_ok-tables.tables.items is.starts_are is.renumbers made.tables;
    }
