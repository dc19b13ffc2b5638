-- None of the legs so far is such a leg.
use Rattle.std.proofs.Common.{ℕ, ◌<◌, slice_index_or}
use Rattle.optra_walk.specs.declared.Leg.{Leg}
use Rattle.optra_search.specs.Marks.{IsCrowding}
use Rattle.optra_search.proofs.splitting.first_crowding.Given as goal

abbrev pub invariant-loop-leg : goal.invariant-loop-leg
invariant-loop-leg g l =
    (k : ℕ) (d : Leg) → k < l.leg-index → IsCrowding (g.F.RowFamily.rows_of l.rows l.inst.net.now) l.inst.bids.now l.node l.listed (l.bid, slice_index_or l.legs k d) → ⊥
