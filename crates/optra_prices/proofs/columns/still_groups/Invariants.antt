use Rattle.std.proofs.Common.{◌≡◌, ℕ, length, take}
use Rattle.optra_prices.proofs.ColumnLemmas.{IsStillOrLeft}
use Rattle.optra_prices.proofs.columns.still_groups.Given as goal

abbrev pub invariant-loop-g : goal.invariant-loop-g
invariant-loop-g l = record {
  count : length l.marks.items ≡ length l.fn.marks.items;
  still : (g : ℕ) → IsStillOrLeft l.fn.marks.items (take l.g-index l.groups) l.marks.items g;
}
