-- A read takes the first record of those that are left.
use Rattle.std.proofs.Common.{sym, ap, ◌∙◌, option_map}
use Rattle.csv.specs.Records.{fields_of}
use Rattle.optra_records.specs.Cuts.{state_of}
use Rattle.optra_records.proofs.CutLemmas.{left_empty, left_none, left_some}
use Rattle.optra_records.proofs.cut_records.CutRecords.next.Goals as goal

pub returns-in-Err-clause-err : goal.returns-in-Err-clause-err
returns-in-Err-clause-err c = left_empty

pub returns-in_default-clause-read : goal.returns-in_default-clause-read
returns-in_default-clause-read c =
    sym c.self.view_is
    ∙ left_none c.self.inside.state c.self.inside.left.now (c.in-Ok.ensures ∙ ap (option_map (λ r. (fields_of c.read_record.new.row, state_of r.0, r.1.now))) c.in_default.is)

pub returns-clause-read : goal.returns-clause-read
returns-clause-read c =
    sym c.self.view_is
    ∙ left_some c.self.inside.state c.self.inside.left.now (fields_of c.read_record.new.row) c.in-Some.state c.in-Some.left.now
    (c.in-Ok.ensures ∙ ap (option_map (λ r. (fields_of c.read_record.new.row, state_of r.0, r.1.now))) c.in-Some.is)
