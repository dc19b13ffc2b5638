-- The bids so far are held.
use Rattle.std.proofs.Common.{◌⊎◌, map, take, All, Contains}
use Rattle.optra_graph.specs.Served.{path_of, Grows}
use Rattle.optra_graph.proofs.graph_map.GraphMap.keep_all.Given as goal

abbrev pub invariant-loop-bid : goal.invariant-loop-bid
invariant-loop-bid l = record {
  held : All (λ bid. Contains (map path_of l.self) bid.path) (take l.bid-index l.bids);
  others : All (λ path. Contains (map path_of l.initial.self) path ⊎ Contains (map (λ bid. bid.path) l.bids) path) (map path_of l.self);
  grows : Grows l.net l.initial.self l.initial.builds l.self l.builds;
}
