use Rattle.std.proofs.Common.{◌≡◌, ℕ, ◌<◌, length}
use Rattle.std.specs.Prelude.{slice_index}
use Rattle.optra_prices.specs.Loads.{narrow_capacities_in, used_in}
use Rattle.optra_prices.proofs.narrow_loads.clear_used.Given as goal

abbrev pub invariant-loop-number : goal.invariant-loop-number
invariant-loop-number l = record {
  count : length l.rows.items ≡ length l.fn.rows.items;
  capacities : narrow_capacities_in l.rows.items ≡ narrow_capacities_in l.fn.rows.items;
  zeros : (n : ℕ) → n < l.number → slice_index (used_in l.rows.items) n ≡ 0;
}
