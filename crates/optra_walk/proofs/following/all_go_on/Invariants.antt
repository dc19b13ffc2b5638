use Rattle.std.specs.List.{AllAdjacentBelow}
use Rattle.optra_walk.specs.Walks.{IsNext}
use Rattle.optra_walk.proofs.following.all_go_on.Given as goal

abbrev pub invariant-loop-i : goal.invariant-loop-i
invariant-loop-i l = AllAdjacentBelow (IsNext l.net l.kind) l.legs l.i
