use Rattle.std.proofs.Common.{◌≡◌, ℕ, ◌+◌, ◌<◌, IsSomeAnd, slice_get, false}
use Rattle.optra_walk.specs.Legs.{is_finish}
use Rattle.optra_walk.proofs.following.finishes_last.Given as goal

abbrev pub invariant-loop-i : goal.invariant-loop-i
invariant-loop-i l = (k : ℕ) → k + 1 < l.i → IsSomeAnd (slice_get l.legs k) (λ leg. is_finish leg.action ≡ false)
