use Rattle.std.proofs.Common.{rules}
use Rattle.optra_node.proofs.NodeLemmas.{child_is_node}
use Rattle.optra_node.proofs.Node.child.Goals as goal

pub returns-clause-node : goal.returns-clause-node
returns-clause-node c net bids is formed =
    child_is_node net bids c.args.self.now c.push.new.self.items c.args.decision (search rules) c.requires is formed
