-- Every node is done by the arcs from here on.
use Rattle.std.proofs.Common.{◌≡◌, ◌≤◌, length, negsuc}
use Rattle.optra_dag.specs.WaySums.{open_graph, AreDone}
use Rattle.optra_dag.proofs.searching.find_ways.Given as goal

abbrev pub invariant-loop-left : goal.invariant-loop-left
invariant-loop-left g l = record {
  sums : length l.sums.items ≡ length l.ends;
  next : length l.next.items ≡ length l.ends;
  few : l.left ≤ length l.arcs;
  done : AreDone (open_graph l.arcs l.ends) (g.W.Weight.allows l.weight) (g.W.Weight.weight l.weight) 4294967295 (negsuc 170141183460469231731687303715884105727) l.next.items l.sums.items l.left;
}

abbrev pub decreases-loop-left : goal.decreases-loop-left
decreases-loop-left g l = l.left
