-- The names of the specifications so far.
use Rattle.std.proofs.Common.{◌≡◌, take}
use Rattle.optra_auction.specs.Machine.{spec_names}
use Rattle.optra_rounds.proofs.standing.spec_names.Given as goal

abbrev pub invariant-specs : goal.invariant-specs
invariant-specs l = l.names.items ≡ spec_names (take l.spec-index l.specs)
