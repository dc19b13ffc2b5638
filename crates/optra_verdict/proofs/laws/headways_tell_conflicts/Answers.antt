use Rattle.optra_verdict.proofs.RuleLemmas.{headways-tell}
use Rattle.optra_verdict.proofs.laws.headways_tell_conflicts.Goals as goal

pub returns : goal.returns
returns c = headways-tell c.args.inst.net.now c.args.inst.bids.now c.requires
