-- The pairs of each bid are those of its walks, of which there is a list.
use Rattle.optra_top.proofs.PairLemmas.{pairs_there}
use Rattle.optra_top.proofs.laws.pairs_are_listed.Goals as goal

pub returns : goal.returns
returns c = pairs_there c.args.inst.net.now c.args.inst.bids.now c.args.inst.proper
