-- The walk that is worth most by the parts of a graph's arcs.
use Rattle.std.specs.Prelude.{◌≡◌, ℕ, Bool, true, false, List, Option, None, Some, ℤ, pos, ◌≤ℤ◌, ◌<ℤ◌}
use Rattle.optra_walk.specs.declared.Leg.{Leg}
use Rattle.optra_dag.specs.Paths.{IsPath, IsFirstBest, weight_of}
use Rattle.optra_graph.specs.Timed.{Timed, walk_of}
use Rattle.optra_prices.specs.Parts.{part_at}
use Rattle.optra_prices.specs.declared.parts.ArcPart.{ArcPart}

-- whether an arc may be taken
abbrev pub allows_at : List ArcPart → ℕ → Bool
allows_at parts k = (part_at parts k).allowed

-- what an arc adds, in thousandths of a cent
abbrev pub weight_at : List ArcPart → ℕ → ℤ
weight_at parts k = (part_at parts k).value

-- the walk of the first best path of arcs that may be taken, where it is worth more than 0; none where no path is
abbrev pub IsWorthWalk : Timed → List ArcPart → Option (List Leg) → Type 0
IsWorthWalk t parts None = (path : List ℕ) → IsPath t.dag (allows_at parts) path → weight_of (weight_at parts) path ≤ℤ pos 0
IsWorthWalk t parts (Some legs) =
    (path : List ℕ) × (total : ℤ) × IsFirstBest t.dag (allows_at parts) (weight_at parts) total path × (pos 0 <ℤ total) × (legs ≡ walk_of t path)

-- whether a path is worth more than 0, and then the first best one
abbrev pub IsWorthPath : Timed → List ArcPart → Bool → List ℕ → Type 0
IsWorthPath t parts true path = (total : ℤ) × IsFirstBest t.dag (allows_at parts) (weight_at parts) total path × (pos 0 <ℤ total)
IsWorthPath t parts false path = (other : List ℕ) → IsPath t.dag (allows_at parts) other → weight_of (weight_at parts) other ≤ℤ pos 0

-- the walk of a path, where one was found
abbrev pub walk_found : Timed → Bool → List ℕ → Option (List Leg)
walk_found t true path = Some (walk_of t path)
walk_found t false path = None
