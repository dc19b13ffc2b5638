-- Graphs in a map, by the numbers of their path specifications.
use Rattle.std.specs.Prelude.{◌≡◌, ℕ, List, map, position, Option, Vec, bytes_eq}
use Rattle.std.specs.declared.alloc.Global.{Global}
use Rattle.optra_bid.specs.Specs.{Path}
use Rattle.optra_graph.specs.Keys.{numbers_of}
use Rattle.optra_graph.specs.Served.{Kept}
use Rattle.optra_graph.specs.declared.graph_map.Entry.{Entry}

-- what contracts see of an entry
abbrev pub kept_of : Vec ℕ Global × Entry → Kept
kept_of entry = record { path = entry.1.path; graph = entry.1.graph }

abbrev pub kept_in : List (Vec ℕ Global × Entry) → List Kept
kept_in entries = map kept_of entries

-- the key of an entry is made of the numbers of its path specification
abbrev pub AreKeyed : List (Vec ℕ Global × Entry) → Type 0
AreKeyed entries = map (λ (entry : Vec ℕ Global × Entry). entry.0.items) entries ≡ map (λ (entry : Vec ℕ Global × Entry). numbers_of entry.1.path) entries

-- the place of a path specification in a list, by its numbers
abbrev pub place_of : Path → List Path → Option ℕ
place_of path paths = position (λ p. bytes_eq (numbers_of path) (numbers_of p)) paths
