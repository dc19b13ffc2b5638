-- What contracts see of a store of graphs, and what it keeps.
use Rattle.std.specs.Prelude.{◌≡◌, length, map, All}
use Rattle.optra_network.specs.Names.{AllDiffer}
use Rattle.optra_graph.specs.Served.{Holding, path_of, IsServed}
use Rattle.optra_reuse.specs.declared.graph_store.GraphStore.TheInside.{Inside}

abbrev pub holding_of : Inside → Holding
holding_of a = record { network = a.net.now; held = map path_of a.graphs; built = a.builds }

-- each graph is that of its path specification, these are different, and each was built once
pub record AreKept (a : Inside) : Type 0 where
  pub served : All (IsServed a.net.now) a.graphs
  pub differ : AllDiffer (map path_of a.graphs)
  pub counted : a.builds ≡ length a.graphs
