-- The places that the steps so far lead to are set.
use Rattle.std.proofs.Common.{take}
use Rattle.optra_graph.specs.Flags.{Marks}
use Rattle.optra_graph.proofs.reaching.mark.Given as goal

abbrev pub invariant-loop-step : goal.invariant-loop-step
invariant-loop-step l = Marks (take l.step-index l.steps) l.initial.flags.items l.flags.items
