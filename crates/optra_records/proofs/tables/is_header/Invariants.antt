use Rattle.std.proofs.Common.{◌≡◌, drop, map}
use Rattle.std.specs.Cmp.Lexicographic.{pointwise}
use Rattle.std.specs.Str.{bytes_eq}
use Rattle.csv.specs.Records.{fields_of}
use Rattle.optra_records.proofs.tables.is_header.Given as goal

abbrev pub invariant-fields : goal.invariant-fields
invariant-fields l = pointwise bytes_eq (drop l.i (fields_of l.cells)) (drop l.i (map (λ name. name.now) l.header)) ≡ pointwise bytes_eq (fields_of l.cells) (map (λ name. name.now) l.header)
