-- The places of the rows from this one on are trimmed.
use Rattle.std.proofs.Common.{◌≤◌}
use Rattle.optra_graph.specs.Flags.{IsTrimmedTo}
use Rattle.optra_graph.specs.Places.{places_of}
use Rattle.optra_graph.specs.StepTables.{place_or, rows_of}
use Rattle.optra_graph.proofs.reaching.trim.Given as goal

abbrev pub invariant-loop-left : goal.invariant-loop-left
invariant-loop-left l = record {
  few : l.left ≤ rows_of l.table;
  trimmed : IsTrimmedTo l.net l.bid.path l.layout (place_or l.table l.left (places_of l.layout)) l.initial.flags.items l.flags.items;
}

abbrev pub decreases-loop-left : goal.decreases-loop-left
decreases-loop-left l = l.left
