-- So far the sums of the ends that were gone over.
use Rattle.std.proofs.Common.{◌≡◌, map, take}
use Rattle.optra_dag.specs.WaySums.{first_sum}
use Rattle.optra_dag.proofs.searching.end_sums.Given as goal

abbrev pub invariant-loop-end : goal.invariant-loop-end
invariant-loop-end l = l.sums.items ≡ map first_sum (take l.end-index l.ends)
