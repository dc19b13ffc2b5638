use Rattle.std.proofs.Common.{take}
use Rattle.optra_node.specs.Nodes.{IsUndecided}
use Rattle.optra_node.proofs.spans.is_undecided.Given as goal

abbrev pub invariant-loop-decision : goal.invariant-loop-decision
invariant-loop-decision l = IsUndecided (take l.decision-index l.decisions) l.bid l.leg
