-- The bytes that are left go on from the place exactly where all do from the start.
use Rattle.std.proofs.Common.{◌≡◌, drop}
use Rattle.optra_records.specs.Canonical.{goes_on}
use Rattle.optra_records.specs.declared.places.Place.TheVariants.{NewRecord}
use Rattle.optra_records.proofs.places.are_written.Given as goal

abbrev pub invariant-bytes : goal.invariant-bytes
invariant-bytes l = goes_on (drop l.b-index l.bytes) l.place ≡ goes_on l.bytes NewRecord
