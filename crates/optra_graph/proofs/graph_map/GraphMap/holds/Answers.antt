-- A path specification is held exactly where it has a place.
use Rattle.std.proofs.Common.{◌∙◌, sym, ap, map, List, is_some, IsTrue, Contains, ◌↔◌, subst, Bool}
use Rattle.optra_graph.specs.GraphMaps.{place_of}
use Rattle.optra_graph.specs.Served.{Kept, path_of}
use Rattle.optra_graph.proofs.KeepLemmas.{holds-place}
use Rattle.optra_graph.proofs.graph_map.GraphMap.holds.Goals as goal

pub returns : goal.returns
returns c =
    subst (λ (b : Bool). IsTrue b ↔ Contains (map path_of c.args.self.now) c.args.bid.now.path) (sym (c.is_some.ensures ∙ ap is_some c.place_in.ensures))
    (holds-place c.args.self.now _ c.args.bid.now.path (ap (λ (l : List Kept). place_of c.args.bid.now.path (map path_of l)) c.self.view_is))
