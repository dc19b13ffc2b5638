use Rattle.std.proofs.Common.{◌≡◌, ◌≤◌, ◌-◌, ◌++◌, drop, map}
use Rattle.optra_rows.specs.Headways.{in_day, pair_of}
use Rattle.optra_rows.proofs.headways.push_pairs.Given as goal

abbrev pub invariant-loop-k : goal.invariant-loop-k
invariant-loop-k l = record {
  started : l.first ≤ l.k;
  list : l.list.items ++ drop (l.k - l.first) (map (pair_of l.leg.track l.kind l.leg.depart) (in_day l.leg.depart l.partners))
      ≡ l.initial.list.items ++ drop l.from (map (pair_of l.leg.track l.kind l.leg.depart) (in_day l.leg.depart l.partners));
}
