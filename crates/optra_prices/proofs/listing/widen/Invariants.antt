use Rattle.std.proofs.Common.{◌≡◌, length, take}
use Rattle.optra_prices.specs.Courses.{HaveCapacities}
use Rattle.optra_prices.specs.Levels.{IsLevels, AreUnused}
use Rattle.optra_prices.specs.Listings.{AddsZeros}
use Rattle.optra_prices.proofs.listing.widen.Given as goal

abbrev pub invariant-loop-n : goal.invariant-loop-n
invariant-loop-n g l = record {
  levels : IsLevels l.levels;
  unused : AreUnused l.levels;
  capacities : HaveCapacities (g.F.RowFamily.rows_of l.rows l.net) (take l.n l.numbered.items) l.levels.loads.capacities;
  prices : AddsZeros l.fn.levels.prices.items l.levels.prices.items;
  count : length l.levels.prices.items ≡ l.n;
}
