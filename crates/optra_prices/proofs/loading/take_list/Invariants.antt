use Rattle.std.proofs.Common.{take}
use Rattle.optra_prices.specs.Levels.{IsLevels, KeepsPrices}
use Rattle.optra_prices.specs.Uses.{TakesUses, list_uses}
use Rattle.optra_prices.proofs.loading.take_list.Given as goal

abbrev pub invariant-loop-g : goal.invariant-loop-g
invariant-loop-g l = record {
  levels : IsLevels l.levels;
  uses : TakesUses (list_uses l.groups (take l.g-index l.list)) l.fn.levels.loads.uses l.levels.loads.uses;
  prices : KeepsPrices l.fn.levels l.levels;
}
