use Rattle.std.proofs.Common.{◌-◌, ◌≤◌}
use Rattle.std.specs.Prelude.{slice_index}
use Rattle.optra_prices.specs.Columns.{AreListed}
use Rattle.optra_prices.specs.Indexes.{items_at}
use Rattle.optra_prices.proofs.ColumnLemmas.{MarksBelow}
use Rattle.optra_prices.proofs.columns.mark_groups.Given as goal

abbrev pub invariant-loop-place : goal.invariant-loop-place
invariant-loop-place l = record {
  low : slice_index l.users.starts.items l.row ≤ l.place;
  listed : AreListed l.marks.items l.due.items;
  below : MarksBelow (l.place - slice_index l.users.starts.items l.row) (items_at l.users l.row) l.fn.marks.items l.marks.items;
}
