-- The starts so far are set.
use Rattle.optra_graph.specs.Flags.{AreStartsSet}
use Rattle.optra_graph.proofs.reaching.mark_starts.Given as goal

abbrev pub invariant-loop-minute : goal.invariant-loop-minute
invariant-loop-minute l = AreStartsSet l.bid.path l.layout l.minute l.initial.flags.items l.flags.items
