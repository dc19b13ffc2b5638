use Rattle.std.proofs.Common.{◌≡◌, ◌++◌, drop, map}
use Rattle.std.specs.List.{range_with_len}
use Rattle.optra_rows.specs.declared.HRow.TheVariants.{Window}
use Rattle.optra_rows.proofs.headways.push_windows.Given as goal

abbrev pub invariant-loop-k : goal.invariant-loop-k
invariant-loop-k l =
    l.list.items ++ drop l.k (map (λ minute. Window l.leg.track minute) (range_with_len l.leg.depart l.least))
    ≡ l.initial.list.items ++ drop l.from (map (λ minute. Window l.leg.track minute) (range_with_len l.leg.depart l.least))
