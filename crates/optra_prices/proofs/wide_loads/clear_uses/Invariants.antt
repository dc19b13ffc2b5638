use Rattle.std.proofs.Common.{◌≡◌, ℕ, ◌<◌, length}
use Rattle.std.specs.Prelude.{slice_index}
use Rattle.optra_prices.specs.Loads.{capacities_in, uses_in}
use Rattle.optra_prices.proofs.wide_loads.clear_uses.Given as goal

abbrev pub invariant-loop-number : goal.invariant-loop-number
invariant-loop-number l = record {
  count : length l.rows.items ≡ length l.fn.rows.items;
  capacities : capacities_in l.rows.items ≡ capacities_in l.fn.rows.items;
  zeros : (n : ℕ) → n < l.number → slice_index (uses_in l.rows.items) n ≡ 0;
}
