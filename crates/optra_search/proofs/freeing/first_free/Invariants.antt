-- The legs so far are fixed.
use Rattle.std.proofs.Common.{ℕ, ◌<◌, slice_index_or}
use Rattle.optra_walk.specs.declared.Leg.{Leg}
use Rattle.optra_search.specs.Splits.{IsFree}
use Rattle.optra_search.proofs.freeing.first_free.Given as goal

abbrev pub invariant-loop-leg : goal.invariant-loop-leg
invariant-loop-leg l = (k : ℕ) (d : Leg) → k < l.leg-index → IsFree l.node l.bid (slice_index_or l.legs k d) → ⊥
