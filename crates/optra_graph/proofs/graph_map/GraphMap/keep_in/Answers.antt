-- Where it has a place, nothing changes.
use Rattle.std.proofs.Common.{◌∙◌, sym, ap, map, List, inl, refl}
use Rattle.optra_graph.specs.GraphMaps.{place_of}
use Rattle.optra_graph.specs.Served.{Kept, path_of}
use Rattle.optra_graph.proofs.KeepLemmas.{contains-place, path-at}
use Rattle.optra_graph.proofs.KeyLemmas.{place-none}
use Rattle.optra_graph.proofs.graph_map.GraphMap.keep_in.Goals as goal

pub returns-in-Some-clause-kept : goal.returns-in-Some-clause-kept
returns-in-Some-clause-kept c =
    inl (contains-place c.args.self.now c.in-Some.place c.args.bid.now.path (ap (λ (l : List Kept). place_of c.args.bid.now.path (map path_of l)) (sym c.self.view_is) ∙ sym c.in-Some.ensures), refl, refl)

pub returns-in-Some-clause-place : goal.returns-in-Some-clause-place
returns-in-Some-clause-place c =
    path-at c.args.self.now c.in-Some.place c.args.bid.now.path (ap (λ (l : List Kept). place_of c.args.bid.now.path (map path_of l)) (sym c.self.view_is) ∙ sym c.in-Some.ensures)

pub returns-in-None-clause-held : goal.returns-in-None-clause-held
returns-in-None-clause-held c = λ h. absurd (place-none c.args.bid.now.path (map path_of c.args.self.now) (ap (λ (l : List Kept). place_of c.args.bid.now.path (map path_of l)) (sym c.self.view_is) ∙ sym c.in-None.ensures) h)
