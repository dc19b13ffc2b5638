-- Bytes that aren't UTF-8 are no name.
use Rattle.optra_tables.proofs.RecordLemmas.{name_none}
use Rattle.optra_tables.proofs.fields.name_of.Goals as goal

pub returns-in-Err-clause-value : goal.returns-in-Err-clause-value
returns-in-Err-clause-value c = name_none c.args.bytes.now c.in-Err.ensures.cases.0
