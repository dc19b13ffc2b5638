-- What is held of the graphs of bids.
use Rattle.std.specs.Prelude.{◌≡◌, ◌⊎◌, ℕ, ◌+◌, ◌-◌, ◌^◌, ◌<◌, List, [], ◌∷◌, ◌++◌, length, map, min, All, Contains}
use Rattle.optra_network.specs.Names.{AllDiffer}
use Rattle.optra_network.specs.Net.{Net}
use Rattle.optra_bid.specs.Specs.{Path}
use Rattle.optra_graph.specs.Timed.{Timed, IsGraphOf}

-- the network, the path specifications whose graphs are held, and how often a graph was built
pub record Holding : Type 0 where
  pub network : Net
  pub held : List Path
  pub built : ℕ

-- a path specification, and the graph that is kept for it
pub record Kept : Type 0 where
  pub path : Path
  pub graph : Timed

abbrev pub path_of : Kept → Path
path_of kept = kept.path

-- the graph is that of the path specification
abbrev pub IsServed : Net → Kept → Type 0
IsServed net kept = IsGraphOf net kept.path kept.graph

-- a path specification comes last, with its graph, which was built and counted
pub record IsAdded (net : Net) (path : Path) (old : List Kept) (built : ℕ) (new : List Kept) (rebuilt : ℕ) : Type 0 where
  pub absent : ¬ Contains (map path_of old) path
  pub graph : Timed
  pub is_graph : IsGraphOf net path graph
  pub added : new ≡ old ++ record { path = path; graph = graph } ∷ []
  pub counted : rebuilt ≡ min (built + 1) (2 ^ 64 - 1)
  pub few : length old < 2 ^ 63

-- a path specification was there, and nothing has changed, or it was added
abbrev pub IsKept : Net → Path → List Kept → ℕ → List Kept → ℕ → Type 0
IsKept net path old built new rebuilt =
    (Contains (map path_of old) path × (new ≡ old) × (rebuilt ≡ built)) ⊎ IsAdded net path old built new rebuilt

-- What is kept while path specifications are asked for: all that was held is held still, each graph is that of its path
-- specification, the path specifications are different, and each of them was built once and counted.
pub record Grows (net : Net) (old : List Kept) (built : ℕ) (new : List Kept) (rebuilt : ℕ) : Type 0 where
  pub kept : All (Contains (map path_of new)) (map path_of old)
  pub served : All (IsServed net) old → All (IsServed net) new
  pub differ : AllDiffer (map path_of old) → AllDiffer (map path_of new)
  pub counted : built ≡ length old → rebuilt ≡ length new
