-- What a planner finds of some bids.
use Rattle.std.specs.Prelude.{◌↔◌, ℤ, List}
use Rattle.std.specs.Prelude.{◌≤ℤ◌}
use Rattle.optra_network.specs.Net.{Net}
use Rattle.optra_bid.specs.declared.bids.Bid.{Bid}
use Rattle.optra_walk.specs.Families.{Entry}
use Rattle.optra_walk.specs.Shares.{sum_of}
use Rattle.optra_payment.specs.Allowed.{IsEarned, IsUpperBound}
use Rattle.optra_payment.specs.declared.Found.{Found}

-- the sum of the bids' bases
abbrev pub base_sum : List Bid → ℤ
base_sum bids = sum_of (λ bid. bid.money.base) bids

-- some choice that keeps the rule earns the revenue, none earns more than the bound, and the bound is at most the sum of the bases
pub record Encloses (net : Net) (Keeps : List Entry → Type 0) (bids : List Bid) (found : Found) : Type 0 where
  pub earned : IsEarned net Keeps bids found.revenue
  pub bounded : IsUpperBound net Keeps bids found.bound
  pub within : found.bound ≤ℤ base_sum bids

-- two planners find the same, of any bids, on any network, by any rows
abbrev pub FindAlike : {F : Type 0} → (F → Net → List Bid → Found → Type 0) → (F → Net → List Bid → Found → Type 0) → Type 0
FindAlike {F} Finds Finds' = (rows : F) (net : Net) (bids : List Bid) (found : Found) → Finds rows net bids found ↔ Finds' rows net bids found
