-- What is left is read, with what is held, as the whole record is from the start.
use Rattle.std.proofs.Common.{◌≡◌, [], drop}
use Rattle.csv.specs.Records.{fields_of, partial_of}
use Rattle.optra_records.specs.Cuts.{state_of}
use Rattle.optra_records.proofs.CutLemmas.{next_cut}
use Rattle.optra_records.proofs.cut_records.read_record.Given as goal

abbrev pub invariant-bytes : goal.invariant-bytes
invariant-bytes l = record {
  partial : partial_of l.row ≡ [];
  read : next_cut (state_of l.state) (fields_of l.row) l.field.items (drop l.i l.bytes) ≡ next_cut (state_of l.fn.start) [] [] l.fn.bytes;
}
