use Rattle.std.proofs.Common.{take}
use Rattle.optra_prices.specs.Levels.{IsLevels, KeepsPrices}
use Rattle.optra_prices.specs.Uses.{AddsUses, rows_use}
use Rattle.optra_prices.proofs.loading.add_rows.Given as goal

abbrev pub invariant-loop-row : goal.invariant-loop-row
invariant-loop-row l = record {
  levels : IsLevels l.levels;
  uses : AddsUses (rows_use (take l.row-index l.rows)) l.fn.levels.loads.uses l.levels.loads.uses;
  prices : KeepsPrices l.fn.levels l.levels;
}
