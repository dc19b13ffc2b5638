-- What contracts see of graphs that are built anew.
use Rattle.std.specs.Prelude.{List, [], map, All}
use Rattle.std.specs.Option.{option_map_or}
use Rattle.optra_graph.specs.Served.{Holding, Kept, path_of, IsServed}
use Rattle.optra_graph.specs.declared.serving.FreshGraphs.TheInside.{Inside}

-- the list that is there, or none
abbrev pub served_of : Inside → List Kept
served_of a = option_map_or (λ (kept : List Kept). kept) a.served []

abbrev pub holding_of : Inside → Holding
holding_of a = record { network = a.net.now; held = map path_of (served_of a); built = a.builds }

-- each graph that is held is that of its path specification
abbrev pub AreServed : Inside → Type 0
AreServed a = All (IsServed a.net.now) (served_of a)
