-- The field that is there, and none past the last.
use Rattle.std.proofs.Common.{ap, ◌∙◌, List, ℕ, [], Option}
use Rattle.std.specs.Prelude.{unwrap_or}
use Rattle.csv.specs.Records.{fields_of}
use Rattle.optra_records.proofs.CanonicalLemmas.{field_at_is}
use Rattle.optra_cert.proofs.record_fields.field.Goals as goal

pub returns-in-Some : goal.returns-in-Some
returns-in-Some c = ap (λ (o : Option (List ℕ)). unwrap_or o []) (c.in-Some.ensures.value ∙ field_at_is (fields_of c.args.row.now) c.args.i)

pub returns-in-None : goal.returns-in-None
returns-in-None c = ap (λ (o : Option (List ℕ)). unwrap_or o []) (c.in-None.ensures.value ∙ field_at_is (fields_of c.args.row.now) c.args.i)
