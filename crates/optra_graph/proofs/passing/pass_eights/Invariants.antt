-- The places so far have been passed.
use Rattle.std.proofs.Common.{◌-◌, ◌≤◌}
use Rattle.optra_graph.specs.Flags.{IsPassed}
use Rattle.optra_graph.proofs.passing.pass_eights.Given as goal

abbrev pub invariant-loop-place : goal.invariant-loop-place
invariant-loop-place l = record {
  later : l.from ≤ l.place;
  within : l.place ≤ l.end;
  passed : IsPassed l.flags l.from l.place;
}

abbrev pub decreases-loop-place : goal.decreases-loop-place
decreases-loop-place l = l.end - l.place
