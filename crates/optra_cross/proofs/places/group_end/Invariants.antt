use Rattle.std.proofs.Common.{◌≡◌, ℕ, ◌<◌, ◌≤◌, get_or}
use Rattle.optra_network.specs.declared.Crosser.{Crosser}
use Rattle.optra_cross.proofs.places.group_end.Given as goal

abbrev pub invariant-crossers : goal.invariant-crossers
invariant-crossers l = (i : ℕ) (d : Crosser) → l.start ≤ i → i < l.end → (get_or l.crossers i d).track.0 ≡ (get_or l.crossers l.start d).track.0
