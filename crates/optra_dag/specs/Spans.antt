-- Where the arcs of each node stand.
use Rattle.std.specs.Prelude.{◌≡◌, ℕ, ◌+◌, ◌<◌, ◌≤◌, List, length, slice_index_or}
use Rattle.optra_dag.specs.Paths.{no_arc}
use Rattle.optra_dag.specs.declared.Arc.{Arc}
use Rattle.optra_dag.specs.declared.spans.Span.{Span}

-- where the arcs of a node stand among so many arcs: from its start up to that of the next node; a node without a start comes behind all arcs
abbrev pub span_of : List ℕ → ℕ → ℕ → Span
span_of starts count node = record { start = slice_index_or starts node count; stop = slice_index_or starts (node + 1) count }

-- the arc stands in the span
abbrev pub StandsIn : Span → ℕ → Type 0
StandsIn span k = (span.start ≤ k) × (k < span.stop)

-- the arcs of the span are those that leave the node
pub record IsSpan (arcs : List Arc) (node : ℕ) (span : Span) : Type 0 where
  pub within : span.stop ≤ length arcs
  pub whole : (k : ℕ) → k < length arcs → (slice_index_or arcs k no_arc).from ≡ node → StandsIn span k
  pub own : (k : ℕ) → StandsIn span k → (slice_index_or arcs k no_arc).from ≡ node

-- the starts of the nodes up to the last one that has arcs, by which each node has its span
pub record AreStarts (arcs : List Arc) (starts : List ℕ) : Type 0 where
  pub used : (node : ℕ) → node < length starts → slice_index_or starts node (length arcs) < length arcs
  pub each : (node : ℕ) → IsSpan arcs node (span_of starts (length arcs) node)
