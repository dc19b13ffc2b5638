use Rattle.std.proofs.Common.{take}
use Rattle.optra_node.specs.Spans.{IsLetBy}
use Rattle.optra_node.proofs.spans.let_by.Given as goal

abbrev pub invariant-loop-decision : goal.invariant-loop-decision
invariant-loop-decision l = IsLetBy l.net (take l.decision-index l.decisions) l.bid l.kind l.leg
