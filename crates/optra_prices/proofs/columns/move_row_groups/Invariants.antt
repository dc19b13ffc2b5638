use Rattle.std.proofs.Common.{◌≡◌, ◌+◌, ◌-◌, ◌≤◌}
use Rattle.std.specs.Prelude.{slice_index}
use Rattle.optra_prices.specs.Columns.{AreListed}
use Rattle.optra_prices.specs.Indexes.{items_at}
use Rattle.optra_prices.proofs.ColumnLemmas.{MarksBelow}
use Rattle.optra_prices.proofs.RunningLemmas.{AreMovedTo}
use Rattle.optra_prices.proofs.columns.move_row_groups.Given as goal

abbrev pub invariant-loop-place : goal.invariant-loop-place
invariant-loop-place l = record {
  low : slice_index l.fn.columns.users.starts.items l.row ≤ l.place;
  high : l.place - slice_index l.fn.columns.users.starts.items l.row ≤ slice_index l.fn.columns.users.starts.items (l.row + 1) - slice_index l.fn.columns.users.starts.items l.row;
  rest : l.columns ≡ record l.fn.columns { running = l.columns.running; marks = l.columns.marks; due = l.columns.due };
  listed : AreListed l.columns.marks.items l.columns.due.items;
  below : MarksBelow (l.place - slice_index l.fn.columns.users.starts.items l.row) (items_at l.fn.columns.users l.row) l.fn.columns.marks.items l.columns.marks.items;
  moved : AreMovedTo l.fn.columns l.row l.by (l.place - slice_index l.fn.columns.users.starts.items l.row) l.columns.running.items;
}
