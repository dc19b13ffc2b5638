use Rattle.optra_verdict.proofs.RuleLemmas.{all-tell}
use Rattle.optra_verdict.proofs.laws.all_rows_tell_conflicts.Goals as goal

pub returns : goal.returns
returns c = all-tell c.args.inst.net.now c.args.inst.bids.now c.args.inst.proper
