use Rattle.std.proofs.Common.{◌≡◌, drop, length}
use Rattle.optra_prices.specs.Columns.{IsColumns, PricesAllButDue}
use Rattle.optra_prices.specs.Levels.{IsLevels, KeepsUses, moved_by}
use Rattle.optra_prices.proofs.levels.set_prices.Given as goal

abbrev pub invariant-loop-next : goal.invariant-loop-next
invariant-loop-next l = record {
  levels : IsLevels l.levels;
  columns : IsColumns l.fn.columns.groups l.columns;
  due : PricesAllButDue l.levels.prices.items l.columns;
  count : length l.levels.prices.items ≡ length l.fn.levels.prices.items;
  prices : moved_by (drop l.next-index l.moves) l.levels.prices.items ≡ moved_by l.moves l.fn.levels.prices.items;
  grouped : l.columns.grouped ≡ l.fn.columns.grouped;
  rest : KeepsUses l.fn.levels l.levels;
}
