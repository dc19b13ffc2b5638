-- The decisions so far are those of a node.
use Rattle.std.proofs.Common.{length}
use Rattle.optra_node.specs.Nodes.{IsNode}
use Rattle.optra_tests.proofs.decisions.node_of.Given as goal

abbrev pub invariant-loop-decision : goal.invariant-loop-decision
invariant-loop-decision g l = IsNode l.inst.net.now (length l.inst.bids.now) l.node
