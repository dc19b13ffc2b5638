-- A read takes the first record of those that are left, and fails only for memory.
use Rattle.csv.specs.Records.{fields_of}
use Rattle.optra_records.proofs.ReadLemmas.{read_from}
use Rattle.optra_records.proofs.reading.Records.next.Goals as goal

pub returns-clause-read : goal.returns-clause-read
returns-clause-read c =
    read_from c.self.inside.reader c.read_byte_record.new.self c.in-Ok.found (fields_of c.read_byte_record.new.row) c.args.self.now c.self.invariant c.self.view_is
    (λ failed. let none = c.in-Ok.ensures.failed failed in cc none)
    (λ good. c.in-Ok.ensures.reads (c.self.invariant good).plain (c.self.invariant good).ready)
