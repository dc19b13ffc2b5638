use Rattle.optra_node.proofs.OwnLemmas.{start_own}
use Rattle.optra_node.proofs.own_decisions.OwnDecisions.start_ok.Goals as goal

pub returns : goal.returns
returns g c = start_own c.args.bid c.own.result.now c.args.self.now.node c.own.ensures c.start_ok.result c.args.minute c.start_ok.ensures
