-- How many of the steps so far lead on.
use Rattle.std.proofs.Common.{◌≡◌, ◌≤◌, take}
use Rattle.std.specs.List.{count_by}
use Rattle.optra_graph.specs.Flags.{is_set}
use Rattle.optra_graph.proofs.reaching.count_on.Given as goal

abbrev pub invariant-loop-step : goal.invariant-loop-step
invariant-loop-step l = record {
  count : l.count ≡ count_by (λ step. is_set l.flags step.to) (take l.step-index l.steps);
  few : l.count ≤ l.step-index;
}
