use Rattle.optra_top.proofs.DemoMeans.{accepted}
use Rattle.optra_top.proofs.laws.demo_is_accepted.Goals as goal

pub returns : goal.returns
returns c = accepted c.args.seed c.args.size c.requires.least c.requires.most
