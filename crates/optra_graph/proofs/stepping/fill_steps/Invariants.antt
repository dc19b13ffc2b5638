-- The steps by the tracks so far stand there.
use Rattle.std.proofs.Common.{ℕ, ◌*◌, ◌≤◌, length}
use Rattle.optra_graph.specs.Steps.{AreStepsBelow, IsSplit, bound_of}
use Rattle.optra_graph.proofs.stepping.fill_steps.Given as goal

abbrev pub invariant-loop-track : goal.invariant-loop-track
invariant-loop-track l = (n : ℕ) × IsSplit l.track-items l.track-index n × AreStepsBelow l.net l.bid.path l.layout l.state (bound_of n 0) l.steps.items × (length l.steps.items ≤ 63 * l.track-index)
