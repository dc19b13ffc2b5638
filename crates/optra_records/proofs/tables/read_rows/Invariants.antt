-- What is left gives what all records give; each record that is accepted takes some of the room.
use Rattle.std.proofs.Common.{◌≡◌, ◌+◌, ◌≤◌, length}
use Rattle.optra_records.specs.Tables.{rows_from}
use Rattle.optra_records.proofs.tables.read_rows.Given as goal

abbrev pub invariant-rows : goal.invariant-rows
invariant-rows g l = record {
  kept : g.T.TableRows.is_kept l.known;
  row : l.row + g.T.TableRows.room l.known ≤ g.T.TableRows.room l.fn.known + 2;
  rest : rows_from (g.T.TableRows.step l.context) l.known l.row l.records ≡ rows_from (g.T.TableRows.step l.context) l.fn.known 2 l.fn.records;
}

abbrev pub decreases-rows : goal.decreases-rows
decreases-rows g l = length l.records
