-- The header, and then the rows.
use Rattle.std.proofs.Common.{map}
use Rattle.std.proofs.lemmas.Result.{err_from_is_err_and}
use Rattle.optra_records.proofs.TableLemmas.{table_fails, table_rows}
use Rattle.optra_records.proofs.tables.read_table.Goals as goal

pub returns-in_err-under_header-clause-gives : goal.returns-in_err-under_header-clause-gives
returns-in_err-under_header-clause-gives g c =
    let p = err_from_is_err_and c.from_residual.result c.from_residual.ensures.1 in
    rw (p.1, p.2) (table_fails (g.T.TableRows.step c.args.context.now) c.args.missing (map (λ name. name.now) c.args.header.now) c.args.known.now c.args.bytes.now c.in_err-under_header.field-0.0
    (rw c.of_table-records.ensures at c.in_err-under_header.ensures))

pub returns-clause-gives : goal.returns-clause-gives
returns-clause-gives g c =
    rw (table_rows (g.T.TableRows.step c.args.context.now) c.args.missing (map (λ name. name.now) c.args.header.now) c.args.known.now c.args.bytes.now c.under_header.new.records
    (rw c.of_table-records.ensures at c.in_ok-under_header.ensures)) c.read_rows.ensures.gives
