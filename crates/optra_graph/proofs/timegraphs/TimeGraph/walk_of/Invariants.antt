-- The legs of the arcs so far.
use Rattle.std.proofs.Common.{◌≡◌, take}
use Rattle.optra_graph.specs.Timed.{walk_of}
use Rattle.optra_graph.proofs.timegraphs.TimeGraph.walk_of.Given as goal

abbrev pub invariant-loop-arc : goal.invariant-loop-arc
invariant-loop-arc l = l.legs.items ≡ walk_of l.self (take l.arc-index l.path)
