-- Why a node has no choice that keeps the rule.
use Rattle.std.specs.Prelude.{◌≡◌, ◌≤◌, ℕ, false, List, Option, None, Some, slice_get}
use Rattle.std.specs.Ordering.{is_gt}
use Rattle.std.specs.declared.cmp.Ordering.{Ordering}
use Rattle.optra_network.specs.Net.{Net}
use Rattle.optra_bid.specs.declared.bids.Bid.{Bid}
use Rattle.optra_walk.specs.Families.{Rows}
use Rattle.optra_node.specs.declared.Decision.{Decision}
use Rattle.optra_node.specs.Nodes.{IsOverfull}
use Rattle.optra_node.specs.Duals.{IsStuck, IsDead}
use Rattle.optra_prices.specs.declared.Dead.{Dead}
use Rattle.optra_prices.specs.declared.Dead.TheVariants.{Forced, NoWalk}

-- the least row that the yes legs overfill
pub record IsLeastOverfull {R : Type 0} (cmp : R → R → Ordering) (rows : Rows R) (bids : List Bid) (node : List Decision) (row : R) : Type 0 where
  pub overfull : IsOverfull rows bids node row
  pub least : (other : R) → IsOverfull rows bids node other → is_gt (cmp row other) ≡ false

-- the yes legs overfill no row
abbrev pub FitsYes : {R : Type 0} → Rows R → List Bid → List Decision → Type 0
FitsYes {R} rows bids node = (row : R) → IsOverfull rows bids node row → ⊥

-- the first bid with a yes leg and no allowed walk
pub record IsFirstStuck {R : Type 0} (net : Net) (rows : Rows R) (bids : List Bid) (node : List Decision) (number : ℕ) : Type 0 where
  pub bid : Bid
  pub at : slice_get bids number ≡ Some bid
  pub stuck : IsStuck net rows bids node number bid
  pub first : (other : ℕ) (b : Bid) → slice_get bids other ≡ Some b → IsStuck net rows bids node other b → number ≤ other

-- forced with the least overfilled row; else without a walk for the first stuck bid; else not dead
abbrev pub IsDeadAs : {R : Type 0} → (R → R → Ordering) → Net → Rows R → List Bid → List Decision → Option (Dead R) → Type 0
IsDeadAs cmp net rows bids node (Some (Forced row)) = IsLeastOverfull cmp rows bids node row
IsDeadAs cmp net rows bids node (Some (NoWalk bid)) = FitsYes rows bids node × IsFirstStuck net rows bids node bid
IsDeadAs cmp net rows bids node None = FitsYes rows bids node × (IsDead net rows bids node → ⊥)
