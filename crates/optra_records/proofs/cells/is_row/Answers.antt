use Rattle.std.proofs.Common.{◌∙◌, ◌<◌, sym, ap, length, arith, false}
use Rattle.std.specs.Str.{is_utf8}
use Rattle.csv.specs.Records.{fields_of}
use Rattle.optra_records.proofs.CellLemmas.{row_is}
use Rattle.optra_records.proofs.CanonicalLemmas.{all_stops, all_goes}
use Rattle.optra_records.proofs.cells.is_row.Goals as goal

pub returns-then-not-is_text : goal.returns-then-not-is_text
returns-then-not-is_text c =
    let within : c.fields.i < length (fields_of c.args.cells.now) = omega (arith, c.len.ensures, c.if-len-n.false, c.fields-test.true) in
    row_is c.args.n (fields_of c.args.cells.now) false (sym c.len.ensures ∙ c.if-len-n.false) (all_stops is_utf8 (fields_of c.args.cells.now) c.fields.i _ within (ap is_utf8 (sym c.field.ensures) ∙ sym c.is_text.ensures ∙ c.if-not-is_text.true) c.fields.invariant)

pub fields-preserved : goal.fields-preserved
fields-preserved c =
    let within : c.fields.i < length (fields_of c.args.cells.now) = omega (arith, c.len.ensures, c.if-len-n.false, c.fields-test.true) in
    all_goes is_utf8 (fields_of c.args.cells.now) c.fields.i _ within (ap is_utf8 (sym c.field.ensures) ∙ sym c.is_text.ensures ∙ c.if-not-is_text.false) c.fields.invariant
