use Rattle.std.proofs.Common.{take}
use Rattle.optra_prices.specs.Levels.{IsLevels, KeepsPrices}
use Rattle.optra_prices.specs.Uses.{AddsUses, touch_uses}
use Rattle.optra_prices.proofs.loading.add_group.Given as goal

abbrev pub invariant-loop-k : goal.invariant-loop-k
invariant-loop-k l = record {
  levels : IsLevels l.levels;
  uses : AddsUses (touch_uses (take l.k l.touches)) l.fn.levels.loads.uses l.levels.loads.uses;
  prices : KeepsPrices l.fn.levels l.levels;
}
