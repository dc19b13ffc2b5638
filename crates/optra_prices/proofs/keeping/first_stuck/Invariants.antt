use Rattle.std.proofs.Common.{◌≡◌, ℕ, ◌<◌, false, Some, slice_get}
use Rattle.optra_prices.specs.declared.numbering.Standing.{Standing}
use Rattle.optra_prices.proofs.keeping.first_stuck.Given as goal

abbrev pub invariant-standings : goal.invariant-standings
invariant-standings l = (other : ℕ) (before : Standing) → other < l.number → slice_get l.standings other ≡ Some before → before.stuck ≡ false
