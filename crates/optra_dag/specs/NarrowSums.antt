-- The sums of the nodes that the narrow search keeps, and the path that it finds by them.
use Rattle.std.specs.Prelude.{◌≡◌, ◌≢◌, ℕ, ◌*◌, ◌-◌, ◌<◌, ◌≤◌, ◌⊎◌, Bool, true, false, List, length, slice_index_or, slice_set, ℤ, pos, negsuc, neg_ℤ, ◌+ℤ◌, ◌≤ℤ◌, FitsSigned}
use Rattle.std.specs.Int.{w64}
use Rattle.optra_dag.specs.Paths.{Graph, no_arc, IsForward, LeadsToEnd, weight_of, ComesFirst}
use Rattle.optra_dag.specs.WaySums.{open_graph, plain_graph}
use Rattle.optra_dag.specs.Spans.{StandsIn, AreStarts}
use Rattle.optra_dag.specs.declared.Arc.{Arc}
use Rattle.optra_dag.specs.declared.spans.Span.{Span}

-- the value of an arc that no path may take
abbrev pub far : ℤ
far = negsuc 4611686018427387903

-- from -r to r
pub record IsWithin (r : ℕ) (z : ℤ) : Type 0 where
  pub low : neg_ℤ (pos r) ≤ℤ z
  pub high : z ≤ℤ pos r

-- far below, by no more than r
pub record IsFar (r : ℕ) (z : ℤ) : Type 0 where
  pub low : far ≤ℤ z
  pub high : z ≤ℤ (far +ℤ pos r)

-- what an arc adds, far below where no path may take it
abbrev pub value_of : Bool → ℤ → ℤ
value_of true z = z
value_of false z = far

abbrev pub arc_value : (ℕ → Bool) → (ℕ → ℤ) → ℕ → ℤ
arc_value allows weight k = value_of (allows k) (weight k)

-- what an arc adds, and the sum at the node that it leads to
abbrev pub sum_by : List Arc → (ℕ → ℤ) → List ℤ → ℕ → ℤ
sum_by arcs value sums k = value k +ℤ slice_index_or sums (slice_index_or arcs k no_arc).to (pos 0)

-- the sum by the arc can be taken
pub record CanBeSummed (arcs : List Arc) (value : ℕ → ℤ) (sums : List ℤ) (k : ℕ) : Type 0 where
  pub arc : k < length arcs
  pub head : (slice_index_or arcs k no_arc).to < length sums
  pub fits : FitsSigned w64 (sum_by arcs value sums k)

-- the greatest of the empty way's sum and of those by the arcs of a span
pub record IsBestOf (by : ℕ → ℤ) (empty : ℤ) (span : Span) (best : ℤ) : Type 0 where
  pub empty_most : empty ≤ℤ best
  pub most : (k : ℕ) → StandsIn span k → by k ≤ℤ best
  pub one : (best ≡ empty) ⊎ ((k : ℕ) × StandsIn span k × (by k ≡ best))

-- the arc is from k on, and leaves the node
abbrev pub LeavesFrom : List Arc → ℕ → ℕ → ℕ → Type 0
LeavesFrom arcs k node j = (k ≤ j) × (j < length arcs) × ((slice_index_or arcs j no_arc).from ≡ node)

-- the greatest of the empty way's sum and of those by the node's arcs from k on
pub record IsBestFrom (arcs : List Arc) (by : ℕ → ℤ) (empty : ℤ) (k node : ℕ) (best : ℤ) : Type 0 where
  pub empty_most : empty ≤ℤ best
  pub most : (j : ℕ) → LeavesFrom arcs k node j → by j ≤ℤ best
  pub one : (best ≡ empty) ⊎ ((j : ℕ) × LeavesFrom arcs k node j × (by j ≡ best))

-- the first arc of a span that gives the sum
pub record IsFirstBy (by : ℕ → ℤ) (span : Span) (sum : ℤ) (k : ℕ) : Type 0 where
  pub stands : StandsIn span k
  pub gives : by k ≡ sum
  pub first : (j : ℕ) → StandsIn span j → j < k → by j ≢ sum

-- the sum of the empty way from a node, or none
abbrev pub empty_sum : Bool → ℤ
empty_sum true = pos 0
empty_sum false = far

-- the sums of the first nodes are those of their empty ways; the path from node 0 may not be empty
abbrev pub AreEmptySums : List Bool → List ℤ → ℕ → Type 0
AreEmptySums ends sums count =
    (node : ℕ) → node < count → slice_index_or sums node (pos 0) ≡ empty_sum (slice_index_or (slice_set ends 0 false) node false)

-- the sums of all nodes when the arcs from k on are done
abbrev pub AreBestFrom : List Arc → List Bool → (ℕ → ℤ) → List ℤ → ℕ → Type 0
AreBestFrom arcs ends value sums k = (node : ℕ) → node < length ends
    → IsBestFrom arcs (sum_by arcs value sums) (empty_sum (slice_index_or (slice_set ends 0 false) node false)) k node (slice_index_or sums node (pos 0))

-- a sum that is within reach, and the greatest of the ways from the node to an end
pub record IsReached (g : Graph) (allows : ℕ → Bool) (weight : ℕ → ℤ) (reach node : ℕ) (sum : ℤ) : Type 0 where
  pub within : IsWithin reach sum
  pub way : (p : List ℕ) × LeadsToEnd g allows node p × (weight_of weight p ≡ sum)
  pub greatest : (q : List ℕ) → LeadsToEnd g allows node q → weight_of weight q ≤ℤ sum

-- no way leads from the node to an end
pub record IsUnreached (g : Graph) (allows : ℕ → Bool) (reach node : ℕ) (sum : ℤ) : Type 0 where
  pub below : IsFar reach sum
  pub none : (q : List ℕ) → LeadsToEnd g allows node q → ⊥

-- the most that the arcs from a node on can add
abbrev pub reach_of : ℕ → List Bool → ℕ → ℕ
reach_of most ends node = most * (length ends - node)

abbrev pub IsSummed : Graph → (ℕ → Bool) → (ℕ → ℤ) → (ℕ → ℕ) → List ℤ → ℕ → Type 0
IsSummed g allows weight reach sums node =
    IsUnreached g allows (reach node) node (slice_index_or sums node (pos 0))
    ⊎ IsReached g allows weight (reach node) node (slice_index_or sums node (pos 0))

-- the sums of the nodes from here on
abbrev pub AreSummed : Graph → (ℕ → Bool) → (ℕ → ℤ) → (ℕ → ℕ) → List ℤ → ℕ → Type 0
AreSummed g allows weight reach sums from =
    (node : ℕ) → from ≤ node → node < length g.ends → IsSummed g allows weight reach sums node

-- of the ways of greatest sum from the node, the first one
pub record IsFirstWay (g : Graph) (allows : ℕ → Bool) (weight : ℕ → ℤ) (node : ℕ) (total : ℤ) (p : List ℕ) : Type 0 where
  pub leads : LeadsToEnd g allows node p
  pub sum : weight_of weight p ≡ total
  pub greatest : (q : List ℕ) → LeadsToEnd g allows node q → weight_of weight q ≤ℤ total
  pub first : (q : List ℕ) → LeadsToEnd g allows node q → weight_of weight q ≡ total → ComesFirst p q

-- the nodes that arcs leave are no ends
abbrev pub LeaveNoEnd : List Arc → List Bool → Type 0
LeaveNoEnd arcs ends = (k : ℕ) → k < length arcs → slice_index_or ends (slice_index_or arcs k no_arc).from false ≡ false

-- the arcs lead forward, each node has its span of them, and no sum of theirs leaves 64 bits
pub record IsNarrow (arcs : List Arc) (ends : List Bool) (starts : List ℕ) (allows : ℕ → Bool) (weight : ℕ → ℤ) (most : ℕ) : Type 0 where
  pub forward : IsForward (plain_graph arcs ends)
  pub started : AreStarts arcs starts
  pub weights : (k : ℕ) → k < length arcs → allows k ≡ true → IsWithin most (weight k)
  pub room : most * length ends ≤ 1152921504606846976

-- what is known when the sums of the nodes from here on are there
abbrev pub HasSums : List Arc → List Bool → (ℕ → Bool) → (ℕ → ℤ) → ℕ → List ℤ → ℕ → Type 0
HasSums arcs ends allows weight most sums from =
    AreSummed (open_graph arcs ends) allows weight (reach_of most ends) sums from

-- the empty way ends here, and is as good as any
abbrev pub IsOver : List Bool → List ℤ → ℕ → Type 0
IsOver ends sums node = (slice_index_or (slice_set ends 0 false) node false ≡ true) × (slice_index_or sums node (pos 0) ≡ pos 0)
