-- The nodes that are still to come when the items of a tree are gone through one after the other. A yes decision of the
-- open node is of a split whose no part is still to come; a no decision leaves nothing behind.
use Rattle.std.specs.Prelude.{◌≡◌, ◌⊎◌, ℕ, ◌<◌, true, List, [], ◌∷◌, ◌++◌, length, take, cond, IsSomeAnd, slice_get}
use Rattle.optra_node.specs.declared.Decision.{Decision}
use Rattle.optra_node.specs.declared.Item.{Item}
use Rattle.optra_node.specs.declared.Item.TheVariants.{Split, NoWalk, Forced, Priced}
use Rattle.optra_node.specs.Trees.{decide_not, root, open_after}

-- the nodes still to come after decisions that stand behind others, the nearest first
abbrev pub to_come_behind : List Decision → List Decision → List (List Decision)
to_come_behind before [] = []
to_come_behind before (d ∷ ds) =
    to_come_behind (before ++ d ∷ []) ds ++ cond d.yes ((before ++ decide_not d.bid d.leg ∷ []) ∷ []) []

-- the nodes still to come after a node, the nearest first
abbrev pub to_come : List Decision → List (List Decision)
to_come node = to_come_behind [] node

-- the open nodes while a node is open: it and those still to come
abbrev pub open_with : List Decision → List (List Decision)
open_with node = node ∷ to_come node

-- of open nodes, either there is none or the first is this one and the others are still to come after it
abbrev pub IsNextWay : List (List Decision) → List Decision → Type 0
IsNextWay ways next = (ways ≡ []) ⊎ (ways ≡ open_with next)

-- before an item of a tree, its node is open
abbrev pub IsAt : {R : Type 0} → List (Item R) → ℕ → List Decision → Type 0
IsAt tree i node = i < length tree → open_after root (take i tree) ≡ open_with node

-- the decision at the place is a yes
abbrev pub IsYesAt : List Decision → ℕ → Type 0
IsYesAt node k = IsSomeAnd (slice_get node k) (λ d. d.yes ≡ true)

-- the place of the last yes decision; 0 where none is one
pub record IsLastYes (node : List Decision) (k : ℕ) : Type 0 where
  pub yes : (k ≡ 0) ⊎ IsYesAt node k
  pub last : (j : ℕ) → k < j → IsYesAt node j → ⊥

-- so many first decisions of the node stay after the item: all after a split, and those before the last yes decision after a leaf
abbrev pub AreKept : {R : Type 0} → List Decision → Item R → ℕ → Type 0
AreKept node (Split bid leg) k = k ≡ length node
AreKept node (NoWalk bid) k = IsLastYes node k
AreKept node (Forced row) k = IsLastYes node k
AreKept node (Priced prices) k = IsLastYes node k
