-- The table of the first best ways, which the search keeps.
use Rattle.std.specs.Prelude.{◌≡◌, ℕ, ◌*◌, ◌<◌, ◌≤◌, Bool, true, false, List, [], ◌∷◌, length, map, slice_set, slice_index_or, ◌-◌, ◌⊎◌, ℤ, pos, negsuc, neg_ℤ, ◌≤ℤ◌, ◌<ℤ◌}
use Rattle.optra_dag.specs.Paths.{Graph, no_arc, LeadsToEnd, to_of, weight_of, ComesFirst}
use Rattle.optra_dag.specs.declared.Arc.{Arc}

-- the graph without the empty path at node 0
abbrev pub open_graph : List Arc → List Bool → Graph
open_graph arcs ends = record { arcs = arcs; ends = slice_set ends 0 false }

abbrev pub plain_graph : List Arc → List Bool → Graph
plain_graph arcs ends = record { arcs = arcs; ends = ends }

-- the sum of the empty way, or none
abbrev pub first_sum : Bool → ℤ
first_sum true = pos 0
first_sum false = negsuc 170141183460469231731687303715884105727

abbrev pub first_sums : List Bool → List ℤ
first_sums ends = slice_set (map first_sum ends) 0 (negsuc 170141183460469231731687303715884105727)

abbrev pub StartsFrom : ℕ → List ℕ → Type 0
StartsFrom k [] = Unit {0}
StartsFrom k (a ∷ p) = k ≤ a

-- the next arc of each node leads along the way, and stops at its end
abbrev pub Follows : Graph → ℕ → List ℕ → ℕ → List ℕ → Type 0
Follows g stop next n [] = slice_index_or next n stop ≡ stop
Follows g stop next n (a ∷ p) = (slice_index_or next n stop ≡ a) × Follows g stop next (to_of g a) p

-- a way from a node whose arcs are all from k on
pub record IsWay (g : Graph) (allows : ℕ → Bool) (k n : ℕ) (p : List ℕ) : Type 0 where
  pub leads : LeadsToEnd g allows n p
  pub late : StartsFrom k p

-- q weighs less than p, or as much and does not come before it
abbrev pub IsNoBetter : (ℕ → ℤ) → ℤ → List ℕ → List ℕ → Type 0
IsNoBetter weight sum p q = (weight_of weight q <ℤ sum) ⊎ ((weight_of weight q ≡ sum) × ComesFirst p q)

pub record IsBestWay (g : Graph) (allows : ℕ → Bool) (weight : ℕ → ℤ) (stop : ℕ) (next : List ℕ) (k n : ℕ) (total : ℤ) (p : List ℕ) : Type 0 where
  pub way : IsWay g allows k n p
  pub sum : weight_of weight p ≡ total
  pub best : (q : List ℕ) → IsWay g allows k n q → IsNoBetter weight total p q
  pub follows : Follows g stop next n p

-- sums of so many weights
pub record IsSum (j : ℕ) (z : ℤ) : Type 0 where
  pub low : neg_ℤ (pos (1152921504606846976 * j)) ≤ℤ z
  pub high : z ≤ℤ pos (1152921504606846976 * j)

abbrev pub IsDead : Graph → (ℕ → Bool) → ℤ → ℕ → ℕ → ℤ → Type 0
IsDead g allows dead k n total = (total ≡ dead) × ((q : List ℕ) → IsWay g allows k n q → ⊥)

abbrev pub IsAlive : Graph → (ℕ → Bool) → (ℕ → ℤ) → ℕ → List ℕ → ℕ → ℕ → ℤ → Type 0
IsAlive g allows weight stop next k n total = IsSum (length g.arcs - k) total × ((p : List ℕ) × IsBestWay g allows weight stop next k n total p)

-- what is known of a node when the arcs from k on are done
abbrev pub IsDone : Graph → (ℕ → Bool) → (ℕ → ℤ) → ℕ → ℤ → List ℕ → ℕ → ℕ → ℤ → Type 0
IsDone g allows weight stop dead next k n total =
    IsDead g allows dead k n total ⊎ IsAlive g allows weight stop next k n total

abbrev pub AreDone : Graph → (ℕ → Bool) → (ℕ → ℤ) → ℕ → ℤ → List ℕ → List ℤ → ℕ → Type 0
AreDone g allows weight stop dead next sums k =
    (n : ℕ) → n < length g.ends → IsDone g allows weight stop dead next k n (slice_index_or sums n dead)

-- the next arcs of the nodes lead from one node to the next along the arcs, and stop there
abbrev pub Traces : List Arc → ℕ → List ℕ → ℕ → List ℕ → Type 0
Traces arcs stop next n [] = slice_index_or next n stop ≡ stop
Traces arcs stop next n (a ∷ p) = (slice_index_or next n stop ≡ a) × (a < length arcs) × ((slice_index_or arcs a no_arc).from ≡ n) × Traces arcs stop next (slice_index_or arcs a no_arc).to p

-- the arcs lead forward among so many nodes
abbrev pub LeadForward : List Arc → ℕ → Type 0
LeadForward arcs nodes = (k : ℕ) → k < length arcs → ((slice_index_or arcs k no_arc).from < (slice_index_or arcs k no_arc).to) × ((slice_index_or arcs k no_arc).to < nodes)
