-- What the search over the marked arcs finds.
use Rattle.std.proofs.Common.{◌∙◌, ap}
use Rattle.optra_graph.specs.Timed.{walk_of}
use Rattle.optra_search.specs.Marks.{allows_at}
use Rattle.optra_search.proofs.MarkLemmas.{path_route, best_of, none_of}
use Rattle.optra_search.proofs.freeing.best_walk.Goals as goal

pub walk_of-requires : goal.walk_of-requires
walk_of-requires c =
    let best = best_of c.args.graph.now c.dag.result.now c.args.marks.now c.in-Some.field-0-0 c.in-Some.path.items c.dag.ensures (rw c.in-Some.is at c.in_ok-path.ensures.best) in
    rw c.deref.ensures.value (path_route c.args.graph.now (allows_at c.args.marks.now) c.in-Some.path.items best.path)

pub returns-in_ok-walk_of-in-Some : goal.returns-in_ok-walk_of-in-Some
returns-in_ok-walk_of-in-Some c =
    let best = best_of c.args.graph.now c.dag.result.now c.args.marks.now c.in-Some.field-0-0 c.in-Some.path.items c.dag.ensures (rw c.in-Some.is at c.in_ok-path.ensures.best) in
    (c.in-Some.path.items, c.in-Some.field-0-0, best, c.in_ok-walk_of-in-Some.ensures ∙ ap (walk_of c.args.graph.now) c.deref.ensures.value)

pub returns-in-None : goal.returns-in-None
returns-in-None c = none_of c.args.graph.now c.dag.result.now c.args.marks.now c.dag.ensures (rw c.in-None.is at c.in_ok-path.ensures.none)
