use Rattle.std.proofs.Common.{◌∙◌, sym}
use Rattle.csv.specs.Records.{fields_of}
use Rattle.optra_records.proofs.CellLemmas.{header_stops, header_goes}
use Rattle.optra_records.proofs.tables.is_header.Goals as goal

pub returns-then-not-is_cell : goal.returns-then-not-is_cell
returns-then-not-is_cell c = header_stops (fields_of c.args.cells.now) c.args.header.now c.fields.i _ _ (sym c.len.ensures ∙ c.if-len-header.false) c.fields-test.true (sym c.is_cell.ensures ∙ c.if-not-is_cell.true) c.fields.invariant

pub fields-preserved : goal.fields-preserved
fields-preserved c = header_goes (fields_of c.args.cells.now) c.args.header.now c.fields.i _ _ (sym c.len.ensures ∙ c.if-len-header.false) c.fields-test.true (sym c.is_cell.ensures ∙ c.if-not-is_cell.false) c.fields.invariant
