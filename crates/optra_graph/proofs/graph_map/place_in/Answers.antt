-- A look-up by numbers finds the place of the path specification.
use Rattle.std.proofs.Common.{◌∙◌}
use Rattle.optra_graph.proofs.KeepLemmas.{place-keyed}
use Rattle.optra_graph.proofs.graph_map.place_in.Goals as goal

pub returns : goal.returns
returns c = c.get_index_of.ensures.index ∙ place-keyed c.args.entries.now.entries c.args.bid.now.path c.as_slice.result.now c.requires.keyed (c.as_slice.ensures.value ∙ c.requires.numbers)
