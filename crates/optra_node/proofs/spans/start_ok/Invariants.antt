use Rattle.std.proofs.Common.{take}
use Rattle.optra_node.specs.Spans.{IsStartOk}
use Rattle.optra_node.proofs.spans.start_ok.Given as goal

abbrev pub invariant-loop-decision : goal.invariant-loop-decision
invariant-loop-decision l = IsStartOk (take l.decision-index l.decisions) l.bid l.minute
