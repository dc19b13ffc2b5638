-- What contracts see of a graph.
use Rattle.std.specs.Prelude.{◌≡◌, ℕ, ◌<◌, ◌≤◌, Bool, false, List, length, slice_index_or}
use Rattle.optra_dag.specs.Paths.{Graph, IsForward}
use Rattle.optra_dag.specs.Spans.{AreStarts}
use Rattle.optra_dag.specs.declared.graphs.Dag.TheInside.{Inside}

abbrev pub graph_of : Inside → Graph
graph_of a = record { arcs = a.arcs; ends = a.ends.items }

-- no node before this one is an end
pub record ComeLate (ends : List Bool) (first : ℕ) : Type 0 where
  pub end : first ≤ length ends
  pub early : (node : ℕ) → node < first → slice_index_or ends node false ≡ false

-- the arcs lead forward, each node has its span of them by the starts, and no end comes before the first one
pub record IsWhole (a : Inside) : Type 0 where
  pub forward : IsForward (graph_of a)
  pub started : AreStarts a.arcs a.starts.items
  pub late : ComeLate a.ends.items a.first_end
