-- None of the rows so far is used.
use Rattle.std.proofs.Common.{◌≡◌, ℕ, ◌<◌, slice_index_or}
use Rattle.optra_search.proofs.splitting.uses_one.Given as goal

abbrev pub invariant-loop-row : goal.invariant-loop-row
invariant-loop-row g l =
    (k : ℕ) (d : _) → k < l.row-index → (g.F.RowFamily.rows_of l.rows l.net).uses l.kind l.leg (slice_index_or l.listed k d) ≡ 0
