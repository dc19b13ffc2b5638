use Rattle.std.proofs.Common.{◌≡◌, ◌<◌, ℕ, [], length}
use Rattle.std.specs.Prelude.{slice_index_or}
use Rattle.optra_prices.specs.Uses.{lists_in}
use Rattle.optra_prices.proofs.loading.forget_paths.Given as goal

abbrev pub invariant-loop-number : goal.invariant-loop-number
invariant-loop-number l = record {
  count : length l.counted.items ≡ length l.fn.counted.items;
  empty : (n : ℕ) → n < l.number → slice_index_or (lists_in l.counted.items) n [] ≡ [];
}
