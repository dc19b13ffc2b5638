-- The rows of the leg so far; and all up to the place are before those to come.
use Rattle.std.proofs.Common.{◌≡◌, ℕ, ◌<◌, ◌≤◌, length, Some, slice_get}
use Rattle.optra_open.specs.Loaded.{ArePast, KeepsOffAt}
use Rattle.optra_open.proofs.loaded.keeps_off.Given as goal

abbrev pub invariant-loop-k : goal.invariant-loop-k
invariant-loop-k g l = record {
  near : l.near ≤ length l.loaded;
  past : (j : ℕ) (row : g.row.F-Row.Denot) → l.k ≤ j → slice_get (g.F.RowFamily.rows_used l.rows l.net l.kind l.leg) j ≡ Some row → ArePast g.F.Row.Ord.cmp l.loaded l.near row;
  seen : (j : ℕ) → j < l.k → KeepsOffAt g.F.Row.Ord.cmp (g.F.RowFamily.rows_of l.rows l.net) l.kind l.loaded l.leg (slice_get (g.F.RowFamily.rows_used l.rows l.net l.kind l.leg) j);
}
