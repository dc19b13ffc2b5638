-- The cells begin with the fields so far.
use Rattle.std.proofs.Common.{◌≡◌, ◌≤◌, drop, length, take}
use Rattle.csv.specs.Records.{fields_of}
use Rattle.optra_cert.proofs.row_records.put_fields.Given as goal

abbrev pub invariant-fields : goal.invariant-fields
invariant-fields l = record {
  room : l.i ≤ length l.cells.items;
  same : take l.i l.cells.items ≡ take l.i (drop 1 (fields_of l.row));
}
