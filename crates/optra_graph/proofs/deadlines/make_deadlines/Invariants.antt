-- No deadline is behind the arrival window.
use Rattle.optra_graph.specs.Deadlines.{AreBounded}
use Rattle.optra_graph.proofs.deadlines.make_deadlines.Given as goal

abbrev pub invariant-loop : goal.invariant-loop
invariant-loop l = AreBounded l.net l.bid.path l.target l.deadlines.items
