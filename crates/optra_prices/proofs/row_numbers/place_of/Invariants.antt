use Rattle.std.proofs.Common.{◌≡◌, ◌-◌, ◌≤◌, ◌<◌, ℕ, length, Some, slice_get, take}
use Rattle.std.specs.declared.cmp.Ordering.TheVariants.{Less, Greater}
use Rattle.optra_prices.proofs.row_numbers.place_of.Given as goal

-- the row is past those below, and before those from the higher place on
abbrev pub invariant-loop-low : goal.invariant-loop-low
invariant-loop-low g l = record {
  low : l.low ≤ l.high;
  high : l.high ≤ l.sorted;
  below : (k : ℕ) (other : g.row.F-Row.Denot) → k < l.low → slice_get (take l.sorted l.rows.items) k ≡ Some other → g.F.Row.Ord.cmp other l.row ≡ Less;
  above : (k : ℕ) (other : g.row.F-Row.Denot) → l.high ≤ k → slice_get (take l.sorted l.rows.items) k ≡ Some other → g.F.Row.Ord.cmp other l.row ≡ Greater;
}

abbrev pub decreases-loop-low : goal.decreases-loop-low
decreases-loop-low g l = l.high - l.low
