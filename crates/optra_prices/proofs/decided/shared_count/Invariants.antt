use Rattle.std.proofs.Common.{◌≡◌, take}
use Rattle.optra_prices.proofs.decided.shared_count.Given as goal

abbrev pub invariant-loop-k : goal.invariant-loop-k
invariant-loop-k l = take l.k l.old ≡ take l.k l.new
