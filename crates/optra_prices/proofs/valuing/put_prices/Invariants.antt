use Rattle.std.proofs.Common.{◌≡◌, length, take}
use Rattle.optra_prices.specs.Columns.{IsColumns, PricesAllButDue}
use Rattle.optra_prices.specs.Levels.{IsLevels, KeepsUses}
use Rattle.optra_prices.specs.Standings.{Agrees}
use Rattle.optra_prices.proofs.valuing.put_prices.Given as goal

abbrev pub invariant-loop-entry : goal.invariant-loop-entry
invariant-loop-entry g l = record {
  count : length l.levels.prices.items ≡ length l.numbering.rows.items;
  agrees : Agrees g.F.Row.Ord.cmp l.numbering.rows.items l.levels.prices.items (take l.entry-index l.entries);
  levels : IsLevels l.levels;
  columns : IsColumns l.fn.columns.groups l.columns;
  due : PricesAllButDue l.levels.prices.items l.columns;
  grouped : l.columns.grouped ≡ l.fn.columns.grouped;
  rest : KeepsUses l.fn.levels l.levels;
}
