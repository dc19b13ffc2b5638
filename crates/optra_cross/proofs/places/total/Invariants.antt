use Rattle.std.proofs.Common.{◌≡◌, take}
use Rattle.optra_cross.specs.Places.{total}
use Rattle.optra_cross.proofs.places.total.Given as goal

abbrev pub invariant-crossers : goal.invariant-crossers
invariant-crossers l = l.sum ≡ total l.time (take l.crosser-index l.crossers)
