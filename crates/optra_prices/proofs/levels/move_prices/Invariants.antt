use Rattle.std.proofs.Common.{◌≡◌, ◌-◌, length}
use Rattle.optra_prices.specs.Columns.{IsColumns, PricesAllButDue}
use Rattle.optra_prices.specs.Levels.{IsLevels, KeepsUses, next_at}
use Rattle.optra_prices.proofs.LevelLemmas.{AreMoving}
use Rattle.optra_prices.proofs.levels.move_prices.Given as goal

abbrev pub invariant-rows : goal.invariant-rows
invariant-rows l = record {
  levels : IsLevels l.levels;
  columns : IsColumns l.fn.columns.groups l.columns;
  due : PricesAllButDue l.levels.prices.items l.columns;
  moving : AreMoving (next_at l.fn.by l.fn.levels) l.fn.levels l.levels l.k;
  grouped : l.columns.grouped ≡ l.fn.columns.grouped;
  rest : KeepsUses l.fn.levels l.levels;
}

abbrev pub decreases-rows : goal.decreases-rows
decreases-rows l = length l.levels.active.items - l.k
