-- One more path specification, or nothing has changed.
use Rattle.optra_graph.specs.Served.{Grows}
use Rattle.optra_reuse.proofs.StoreLemmas.{grows-keep, path-at-place}
use Rattle.optra_reuse.proofs.graph_store.GraphStore.keep.Goals as goal

pub invariant_of-self : goal.invariant_of-self
invariant_of-self c =
    let g : Grows c.self.inside.net.now c.self.inside.graphs c.self.inside.builds c.keep.new.self c.keep.new.builds =
    grows-keep c.self.inside.net.now c.args.bid.now.path c.self.inside.graphs c.keep.new.self c.self.inside.builds c.keep.new.builds c.keep.result c.keep.ensures.kept c.keep.ensures.err in
    record { served = g.served c.self.invariant.served; differ = g.differ c.self.invariant.differ; counted = g.counted c.self.invariant.counted }

pub returns-clause-place : goal.returns-clause-place
returns-clause-place c = path-at-place c.keep.new.self c.args.bid.now.path c.keep.result c.keep.ensures.place
