-- Totals of a node's yes legs, and what they have beside a bid's own decisions.
use Rattle.std.specs.Prelude.{◌≡◌, ℕ, ◌+◌, ◌-◌, ◌<◌, true, List}
use Rattle.std.specs.declared.cmp.Ordering.{Ordering}
use Rattle.std.specs.BTreeMap.{BTreeMap}
use Rattle.optra_network.specs.declared.TypeId.{TypeId}
use Rattle.optra_bid.specs.declared.bids.Bid.{Bid}
use Rattle.optra_walk.specs.declared.Leg.{Leg}
use Rattle.optra_walk.specs.Families.{Rows, total_of}
use Rattle.optra_node.specs.declared.Decision.{Decision}
use Rattle.optra_node.specs.Nodes.{yes_load}

-- the totals are how much of each row the yes legs use
abbrev pub AreLoads : {R : Type 0} → (R → R → Ordering) → Rows R → List Bid → List Decision → BTreeMap R ℕ → Type 0
AreLoads {R} cmp rows bids node totals = (row : R) → total_of cmp totals row ≡ yes_load rows bids node row

-- how much of the row the totals have beside a bid's own decisions
abbrev pub load_beside : {R : Type 0} → (R → R → Ordering) → Rows R → List Bid → BTreeMap R ℕ → List Decision → R → ℕ
load_beside cmp rows bids totals own row = total_of cmp totals row - yes_load rows bids own row

-- the leg uses the row, and it and the load of the others come to more than the capacity
pub record IsBlockedBesideBy {R : Type 0} (rows : Rows R) (others : R → ℕ) (kind : TypeId) (leg : Leg) (row : R) : Type 0 where
  pub is_row : rows.is_row row ≡ true
  pub used : 0 < rows.uses kind leg row
  pub above : rows.capacity row < rows.uses kind leg row + others row

abbrev pub IsBlockedBeside : {R : Type 0} → Rows R → (R → ℕ) → TypeId → Leg → Type 0
IsBlockedBeside {R} rows others kind leg = (row : R) × IsBlockedBesideBy rows others kind leg row
