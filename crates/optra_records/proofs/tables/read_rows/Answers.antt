-- Each record goes on, or is the first fault.
use Rattle.std.proofs.Common.{arith}
use Rattle.std.proofs.lemmas.Result.{err_from_is_err_and}
use Rattle.csv.specs.Records.{fields_of}
use Rattle.optra_records.proofs.TableLemmas.{row_fails, row_goes, rows_end}
use Rattle.optra_records.proofs.tables.read_rows.Goals as goal

pub returns-in_err-add-clause-gives : goal.returns-in_err-add-clause-gives
returns-in_err-add-clause-gives g c =
    let p = err_from_is_err_and c.from_residual-in_err-add.result c.from_residual-in_err-add.ensures.1 in
    rw (p.1, p.2) (
    row_fails (g.T.TableRows.step c.args.context.now) c.rows.records c.next.new.self (fields_of c.next.new.row) c.rows.known c.rows.row _ c.in_err-add.field-0.0
    (rw c.if-branch.true at c.in_ok-next.ensures.read) c.in_err-add.ensures.gives c.rows.invariant.rest
    )

pub rows-preserved : goal.rows-preserved
rows-preserved g c =
    record {
      kept = c.in_ok-add.ensures.kept;
      row = omega (arith, c.in_ok-add.ensures.room, c.rows.invariant.row);
      rest =
          row_goes (g.T.TableRows.step c.args.context.now) c.rows.records c.next.new.self (fields_of c.next.new.row) c.rows.known c.add.new.known c.rows.row _
          (rw c.if-branch.true at c.in_ok-next.ensures.read) c.in_ok-add.ensures.gives c.rows.invariant.rest;
    }

pub returns-clause-gives : goal.returns-clause-gives
returns-clause-gives g c = rows_end (g.T.TableRows.step c.args.context.now) c.rows.records c.rows.known c.rows.row _ (rw c.if-branch.false at c.in_ok-next.ensures.read) c.rows.invariant.rest
