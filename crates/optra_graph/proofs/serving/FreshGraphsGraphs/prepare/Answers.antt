-- All that is held is of the bids.
use Rattle.optra_graph.proofs.KeepLemmas.{others-new}
use Rattle.optra_graph.proofs.serving.FreshGraphsGraphs.prepare.Goals as goal

pub returns-clause-others : goal.returns-clause-others
returns-clause-others c = others-new c.new-served.result c.keep_all.new.self c.args.self.now.held c.args.bids.now c.new-served.ensures c.keep_all.ensures.others
