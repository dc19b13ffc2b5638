use Rattle.std.proofs.Common.{◌≡◌, drop}
use Rattle.std.specs.List.{list_all}
use Rattle.std.specs.Str.{is_utf8}
use Rattle.csv.specs.Records.{fields_of}
use Rattle.optra_records.proofs.cells.is_row.Given as goal

abbrev pub invariant-fields : goal.invariant-fields
invariant-fields l = list_all is_utf8 (drop l.i (fields_of l.cells)) ≡ list_all is_utf8 (fields_of l.cells)
