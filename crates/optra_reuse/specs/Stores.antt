-- How a store of graphs changes where the graph of a path specification is asked for.
use Rattle.std.specs.Prelude.{◌≡◌, ◌⊎◌, ◌+◌, [], ◌∷◌, ◌++◌, Contains}
use Rattle.optra_bid.specs.Specs.{Path}
use Rattle.optra_graph.specs.Served.{Holding}

-- what is held with one more path specification, whose graph was built
abbrev pub with_path : Holding → Path → Holding
with_path held path = record held { held = held.held ++ path ∷ []; built = held.built + 1 }

-- where the path specification was held, nothing has changed; else it is held too, and one graph was built
abbrev pub Keeps : Path → Holding → Holding → Type 0
Keeps path old new = (Contains old.held path × (new ≡ old)) ⊎ ((Contains old.held path → ⊥) × (new ≡ with_path old path))
