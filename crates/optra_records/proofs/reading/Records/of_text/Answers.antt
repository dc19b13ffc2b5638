-- A new reader has all records of the text.
use Rattle.optra_records.proofs.ReadLemmas.{new_left}
use Rattle.optra_records.proofs.reading.Records.of_text.Goals as goal

pub returns : goal.returns
returns c = new_left c.from_reader.result c.args.bytes.now c.from_reader.ensures.state c.from_reader.ensures.source c.requires
