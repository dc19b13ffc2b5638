-- One more field is put.
use Rattle.std.proofs.Common.{arith, ap, ◌∙◌, ◌++◌, ◌∷◌, [], List, ℕ, take}
use Rattle.csv.specs.Records.{fields_of}
use Rattle.optra_cert.proofs.CellLemmas.{fields_more}
use Rattle.optra_cert.proofs.row_records.put_fields.Goals as goal

pub fields-preserved : goal.fields-preserved
fields-preserved c = record {
  room = omega (arith, c.in_ok-put.ensures.room);
  same =
      fields_more c.fields.cells.items c.put.new.cells.items (fields_of c.args.row.now) c.fields.i (omega (arith, c.requires, c.fields-test.true)) c.fields.invariant.same
      (c.in_ok-put.ensures.put ∙ ap (λ (f : List ℕ). take c.fields.i c.fields.cells.items ++ f ∷ []) c.field.ensures);
}
