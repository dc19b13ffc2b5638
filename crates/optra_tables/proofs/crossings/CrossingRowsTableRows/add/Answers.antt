-- A record that is accepted keeps what holds, and takes some of the room.
use Rattle.csv.specs.Records.{fields_of}
use Rattle.optra_tables.specs.Networks.{crossing_row}
use Rattle.optra_tables.proofs.RowLemmas.{row_gives}
use Rattle.optra_tables.proofs.StepLemmas.{crossing_step}
use Rattle.optra_tables.proofs.crossings.CrossingRowsTableRows.add.Goals as goal

pub returns-clause-kept : goal.returns-clause-kept
returns-clause-kept c =
    row_gives _ c.read_row.new.net c.read_row.result c.row_answer.result (crossing_row c.args.net.now c.args.row (fields_of c.args.cells.now)) c.row_answer.ensures c.read_row.ensures
    (λ e. (crossing_step c.args.net.now c.read_row.new.net c.args.row (fields_of c.args.cells.now) e c.requires).0)

pub returns-clause-room : goal.returns-clause-room
returns-clause-room c =
    row_gives _ c.read_row.new.net c.read_row.result c.row_answer.result (crossing_row c.args.net.now c.args.row (fields_of c.args.cells.now)) c.row_answer.ensures c.read_row.ensures
    (λ e. (crossing_step c.args.net.now c.read_row.new.net c.args.row (fields_of c.args.cells.now) e c.requires).1)
