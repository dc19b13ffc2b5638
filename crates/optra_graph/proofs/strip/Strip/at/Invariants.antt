-- The place comes in this strip or a later one.
use Rattle.std.proofs.Common.{◌-◌, ◌≤◌}
use Rattle.optra_graph.specs.Strips.{IsStrip}
use Rattle.optra_graph.proofs.strip.Strip.at.Given as goal

abbrev pub invariant-loop-strip : goal.invariant-loop-strip
invariant-loop-strip l = record {
  strip : IsStrip l.layout l.strip;
  later : l.strip.start ≤ l.place;
}

abbrev pub decreases-loop-strip : goal.decreases-loop-strip
decreases-loop-strip l = l.place - l.strip.start
