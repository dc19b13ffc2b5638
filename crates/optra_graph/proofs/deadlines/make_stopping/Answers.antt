-- The deadlines for the last stop are those of states with stops left.
use Rattle.std.proofs.Common.{rules, sym}
use Rattle.optra_graph.proofs.DeadlineLemmas.{stopping_from}
use Rattle.optra_graph.proofs.deadlines.make_stopping.Goals as goal

pub returns : goal.returns
returns c = stopping_from c.args.net.now c.args.bid.now.path c.args.deadlines.now _ c.requires.deadlines c.in-Some.stop (sym c.in-Some.ensures) _ c.stop_target.ensures (search rules)
