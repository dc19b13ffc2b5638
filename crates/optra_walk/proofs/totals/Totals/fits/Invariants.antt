use Rattle.std.proofs.Common.{ℕ, ◌<◌, ◌≤◌, ◌+◌, IfSome, slice_get}
use Rattle.optra_walk.specs.Families.{total_of}
use Rattle.optra_walk.proofs.totals.Totals.fits.Given as goal

abbrev pub invariant-loop-k : goal.invariant-loop-k
invariant-loop-k g l =
    (j : ℕ) → j < l.k → IfSome (slice_get (g.F.RowFamily.rows_used l.rows l.net l.kind l.leg) j)
    (λ row. total_of g.F.Row.Ord.cmp l.self.sums row + (g.F.RowFamily.rows_of l.rows l.net).uses l.kind l.leg row ≤ (g.F.RowFamily.rows_of l.rows l.net).capacity row)
