use Rattle.std.proofs.Common.{◌≡◌, take}
use Rattle.optra_cross.specs.Places.{rank}
use Rattle.optra_cross.proofs.places.rank.Given as goal

abbrev pub invariant-crossers : goal.invariant-crossers
invariant-crossers l = l.sum ≡ rank l.time l.place (take l.crosser-index l.crossers)
