-- At worst all deadlines are the end of the arrival window.
use Rattle.std.proofs.Common.{rules}
use Rattle.optra_graph.proofs.DeadlineLemmas.{first_deadlines}
use Rattle.optra_graph.proofs.deadlines.make_deadlines.Goals as goal

pub returns : goal.returns
returns c = first_deadlines c.args.net.now c.args.bid.now.path c.args.target _ c.station_count.ensures.proper (search rules) c.requires.before (search rules)
