-- The path so far goes before the first best way from here.
use Rattle.std.proofs.Common.{ℕ, ◌<◌, ◌-◌, ◌++◌, List, length, get_or, pos}
use Rattle.optra_dag.specs.WaySums.{open_graph}
use Rattle.optra_dag.specs.NarrowSums.{IsReached, IsFirstWay, reach_of}
use Rattle.optra_dag.proofs.narrow.trace.Given as goal

abbrev pub invariant-nodes : goal.invariant-nodes
invariant-nodes g l = record {
  within : l.node < length l.ends;
  reached : IsReached (open_graph l.arcs l.ends) (g.W.NarrowWeight.allows l.weight) (g.W.NarrowWeight.weight l.weight) (reach_of l.most l.ends l.node) l.node (get_or l.sums l.node (pos 0));
  before : (p : List ℕ) → IsFirstWay (open_graph l.arcs l.ends) (g.W.NarrowWeight.allows l.weight) (g.W.NarrowWeight.weight l.weight) l.node (get_or l.sums l.node (pos 0)) p
      → IsFirstWay (open_graph l.arcs l.ends) (g.W.NarrowWeight.allows l.weight) (g.W.NarrowWeight.weight l.weight) 0 (get_or l.sums 0 (pos 0)) (l.path.items ++ p);
}

abbrev pub decreases-nodes : goal.decreases-nodes
decreases-nodes g l = length l.ends - l.node
