use Rattle.std.proofs.Common.{◌≡◌, ◌<◌, ℕ, length, slice_get}
use Rattle.optra_prices.specs.Levels.{IsLevels, KeepsPrices}
use Rattle.optra_prices.specs.Uses.{AreCounted, lists_of, lists_in}
use Rattle.optra_prices.proofs.loading.count_uses.Given as goal

abbrev pub invariant-loop-number : goal.invariant-loop-number
invariant-loop-number l = record {
  levels : IsLevels l.levels;
  done : (n : ℕ) → n < l.number → slice_get (lists_in l.counted.items) n ≡ slice_get (lists_of l.standings) n;
  counted : AreCounted l.groups (length l.standings) (lists_in l.counted.items) l.levels.loads.uses;
  prices : KeepsPrices l.fn.levels l.levels;
}
