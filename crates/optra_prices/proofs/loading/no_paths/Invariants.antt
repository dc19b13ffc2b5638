use Rattle.std.proofs.Common.{◌≡◌, [], replicate}
use Rattle.optra_prices.specs.Uses.{lists_in}
use Rattle.optra_prices.proofs.loading.no_paths.Given as goal

abbrev pub invariant-loop-number : goal.invariant-loop-number
invariant-loop-number l = lists_in l.counted.items ≡ replicate l._number []
