-- The state at a place of the strip.
use Rattle.optra_graph.proofs.StripLemmas.{strip_state}
use Rattle.optra_graph.proofs.strip.Strip.state.Goals as goal

pub returns-clause-value : goal.returns-clause-value
returns-clause-value c = rw c.station.ensures (strip_state c.args.layout c.args.self c.requires.strip c.args.place c.requires.here)
