-- What a plan is by itself, whatever the rule of its family says.
use Rattle.std.specs.Prelude.{◌≡◌, ℕ, ◌+◌, ◌-◌, ◌^◌, ◌≤◌, ℤ, List, length, Option}
use Rattle.std.specs.Prelude.{◌≤ℤ◌}
use Rattle.std.specs.declared.cmp.Ordering.{Ordering}
use Rattle.optra_network.specs.Net.{Net}
use Rattle.optra_bid.specs.declared.bids.Bid.{Bid}
use Rattle.optra_walk.specs.declared.Leg.{Leg}
use Rattle.optra_walk.specs.Choices.{IsChoice, revenue_of}
use Rattle.optra_walk.specs.Families.{Rows, Entry, entries_of}
use Rattle.optra_search.specs.Planner.{Planned, IsPlainPlan}
use Rattle.optra_search.specs.Laws.{ArePairs, IsCertified, HasNumbers, EarnEach}

-- no choice that keeps the rule earns more
abbrev pub EarnAtMost : Net → (List Entry → Type 0) → List Bid → ℤ → Type 0
EarnAtMost net Keeps bids most =
    (walks : List (Option (List Leg))) → IsChoice net bids walks → Keeps (entries_of bids walks) → revenue_of net bids walks ≤ℤ most

-- with this budget the bound is the revenue: it is at least one less than 2 to the power of one more than the number of
-- different pairs of a bid and a leg of one of its walks
abbrev pub IsMetFrom : Net → List Bid → ℕ → ℤ → ℤ → Type 0
IsMetFrom net bids budget revenue bound =
    (pairs : List (ℕ × Leg)) → ArePairs net bids pairs → 2 ^ (length pairs + 1) - 1 ≤ budget → bound ≡ revenue

-- The plan of the bids by a family of rows, with so many price steps and this budget. It is the plan of the plain planner, and
-- there is no other one. Its parts are a formed and valid certificate, so its choice keeps the rule and earns the revenue. No
-- choice that keeps the rule earns more than the bound, nor more than the revenue where the two meet. The bound is above the
-- revenue only where the budget was spent, and there is a budget from which on it is not. Each walk is worth at least a cent.
pub record IsCertifiedPlan {R : Type 0} (cmp : R → R → Ordering) (net : Net) (rows : Rows R) (Keeps : List Entry → Type 0) (bids : List Bid) (steps budget : ℕ) (plan : Planned R) : Type 0 where
  pub by_search : IsPlainPlan cmp net rows bids steps budget plan
  pub only : (other : Planned R) → IsPlainPlan cmp net rows bids steps budget other → other ≡ plan
  pub certified : IsCertified cmp net rows Keeps bids plan
  pub numbers : HasNumbers bids budget plan
  pub bounded : EarnAtMost net Keeps bids plan.bound
  pub best : plan.revenue ≡ plan.bound → EarnAtMost net Keeps bids plan.revenue
  pub sufficient : IsMetFrom net bids budget plan.revenue plan.bound
  pub worth : EarnEach net bids plan.choice

-- every plan of the plain planner is one
abbrev pub CertifiesPlans : {R : Type 0} → (R → R → Ordering) → Net → Rows R → (List Entry → Type 0) → List Bid → Type 0
CertifiesPlans {R} cmp net rows Keeps bids =
    (steps budget : ℕ) (plan : Planned R) → IsPlainPlan cmp net rows bids steps budget plan → IsCertifiedPlan cmp net rows Keeps bids steps budget plan
