-- Other path specifications are held only where they were, and what was held is held still.
use Rattle.std.proofs.Common.{◌⊎◌, List, map, subst, ap, All, Contains}
use Rattle.optra_bid.specs.Specs.{Path}
use Rattle.optra_bid.specs.declared.bids.Bid.{Bid}
use Rattle.optra_graph.specs.Served.{Holding, path_of}
use Rattle.optra_reuse.proofs.StoreLemmas.{on-ok}
use Rattle.optra_reuse.proofs.graph_store.GraphStoreGraphs.prepare.Goals as goal

pub returns-clause-others : goal.returns-clause-others
returns-clause-others c =
    on-ok c.keep_all.result _
    (subst (λ (held : List Path). All (λ (path : Path). Contains held path ⊎ Contains (map (λ (bid : Bid). bid.path) c.args.bids.now) path) (map path_of c.keep_all.new.self))
    (ap (λ (h : Holding). h.held) c.self.view_is) c.keep_all.ensures.others)

pub returns-clause-kept : goal.returns-clause-kept
returns-clause-kept c =
    on-ok c.keep_all.result _ (λ _. subst (All (Contains (map path_of c.keep_all.new.self))) (ap (λ (h : Holding). h.held) c.self.view_is) c.keep_all.ensures.grows.kept)
