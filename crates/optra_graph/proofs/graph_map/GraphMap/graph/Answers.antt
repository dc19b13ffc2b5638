-- The graph at the place of the path specification.
use Rattle.std.proofs.Common.{◌∙◌, sym, ap, map, List}
use Rattle.optra_graph.specs.GraphMaps.{place_of}
use Rattle.optra_graph.specs.Served.{Kept, path_of}
use Rattle.optra_graph.proofs.KeepLemmas.{graph-at}
use Rattle.optra_graph.proofs.KeyLemmas.{place-none}
use Rattle.optra_graph.proofs.graph_map.GraphMap.graph.Goals as goal

pub returns-in-Some : goal.returns-in-Some
returns-in-Some c =
    graph-at c.args.self.now c.in-Some.place c.args.bid.now.path c.at.result.now
    (ap (λ (l : List Kept). place_of c.args.bid.now.path (map path_of l)) (sym c.self.view_is) ∙ sym c.in-Some.ensures) c.at.ensures

pub returns-in-None : goal.returns-in-None
returns-in-None c = place-none c.args.bid.now.path (map path_of c.args.self.now) (ap (λ (l : List Kept). place_of c.args.bid.now.path (map path_of l)) (sym c.self.view_is) ∙ sym c.in-None.ensures)
