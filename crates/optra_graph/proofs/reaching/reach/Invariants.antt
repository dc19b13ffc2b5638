-- The places before this one, which is reached, have handed on that they are reached, and their steps stand in the table. The strip does not come later.
use Rattle.std.proofs.Common.{◌-◌, ◌<◌, ◌≤◌}
use Rattle.optra_graph.specs.Flags.{IsReachedTo, IsSet}
use Rattle.optra_graph.specs.Places.{places_of}
use Rattle.optra_graph.specs.StepTables.{AreStepsTo}
use Rattle.optra_graph.specs.Strips.{IsStrip}
use Rattle.optra_graph.proofs.reaching.reach.Given as goal

abbrev pub invariant-loop-place : goal.invariant-loop-place
invariant-loop-place l = record {
  reached : IsReachedTo l.net l.bid.path l.layout l.place l.flags.items;
  steps : AreStepsTo l.net l.bid.path l.layout l.place l.flags.items l.table;
  strip : IsStrip l.layout l.strip;
  before : l.strip.start ≤ l.place;
  within : l.place ≤ places_of l.layout;
  set : l.place < places_of l.layout → IsSet l.flags.items l.place;
}

abbrev pub decreases-loop-place : goal.decreases-loop-place
decreases-loop-place l = l.end - l.place
