-- No decision from here on is a yes.
use Rattle.std.proofs.Common.{◌≤◌, ℕ, length}
use Rattle.optra_open.specs.ToCome.{IsYesAt}
use Rattle.optra_open.proofs.node_room.last_yes.Given as goal

abbrev pub invariant-back : goal.invariant-back
invariant-back l = record {
  within : l.left ≤ length l.decisions;
  none : (j : ℕ) → l.left ≤ j → IsYesAt l.decisions j → ⊥;
}

abbrev pub decreases-back : goal.decreases-back
decreases-back l = l.left
