-- The laws of the plain planner.
use Rattle.std.specs.Prelude.{◌≡◌, ℕ, ◌+◌, ◌-◌, ◌^◌, ◌≤◌, List, length, Option, Some, slice_get, All, Contains, IfSome}
use Rattle.std.specs.Prelude.{pos, ◌≤ℤ◌, ◌<ℤ◌}
use Rattle.std.specs.List.{AllPairs, AllZip}
use Rattle.std.specs.declared.cmp.Ordering.{Ordering}
use Rattle.optra_network.specs.Net.{Net}
use Rattle.optra_bid.specs.Specs.{IsBetween}
use Rattle.optra_bid.specs.declared.bids.Bid.{Bid}
use Rattle.optra_walk.specs.declared.Leg.{Leg}
use Rattle.optra_walk.specs.Walks.{IsWalk}
use Rattle.optra_walk.specs.Values.{value_of}
use Rattle.optra_walk.specs.Families.{Rows, Entry}
use Rattle.optra_node.specs.Duals.{sum_of}
use Rattle.optra_node.specs.Certificates.{IsFormed, IsValid}
use Rattle.optra_search.specs.Planner.{State, IsTurn, Planned, IsPlainPlan}

-- a turn of a state leads to one state
abbrev pub OneTurn : {R : Type 0} → (R → R → Ordering) → Net → Rows R → List Bid → Type 0
OneTurn {R} cmp net rows bids =
    (steps budget : ℕ) (before a b : State R) → IsTurn cmp net rows bids steps budget before a → IsTurn cmp net rows bids steps budget before b → a ≡ b

-- there is at most one plan
abbrev pub OnePlan : {R : Type 0} → (R → R → Ordering) → Net → Rows R → List Bid → Type 0
OnePlan {R} cmp net rows bids =
    (steps budget : ℕ) (a b : Planned R) → IsPlainPlan cmp net rows bids steps budget a → IsPlainPlan cmp net rows bids steps budget b → a ≡ b

-- what holds of every plan: its choice, revenue, bound and tree make a formed and valid certificate
pub record IsCertified {R : Type 0} (cmp : R → R → Ordering) (net : Net) (rows : Rows R) (Keeps : List Entry → Type 0) (bids : List Bid) (plan : Planned R) : Type 0 where
  pub formed : IsFormed cmp net (length bids) plan.choice plan.tree
  pub valid : IsValid net rows Keeps bids plan.revenue plan.bound plan.choice plan.tree

abbrev pub PlansAreCertified : {R : Type 0} → (R → R → Ordering) → Net → Rows R → (List Entry → Type 0) → List Bid → Type 0
PlansAreCertified {R} cmp net rows Keeps bids =
    (steps budget : ℕ) (plan : Planned R) → IsPlainPlan cmp net rows bids steps budget plan → IsCertified cmp net rows Keeps bids plan

-- the numbers of a plan: the revenue is 0 to the bound, which is at most the sum of the bases, and the bound is above
-- the revenue only where the budget was spent
pub record HasNumbers {R : Type 0} (bids : List Bid) (budget : ℕ) (plan : Planned R) : Type 0 where
  pub least : pos 0 ≤ℤ plan.revenue
  pub within : plan.revenue ≤ℤ plan.bound
  pub bases : plan.bound ≤ℤ sum_of (λ b. b.money.base) bids
  pub gap : plan.revenue <ℤ plan.bound → plan.nodes ≡ budget

abbrev pub PlansHaveNumbers : {R : Type 0} → (R → R → Ordering) → Net → Rows R → List Bid → Type 0
PlansHaveNumbers {R} cmp net rows bids =
    (steps budget : ℕ) (plan : Planned R) → IsPlainPlan cmp net rows bids steps budget plan → HasNumbers bids budget plan

-- the leg is one of a walk of the bid
pub record IsPair (net : Net) (bids : List Bid) (pair : ℕ × Leg) : Type 0 where
  pub bid : Bid
  pub at : slice_get bids pair.0 ≡ Some bid
  pub legs : List Leg
  pub walk : IsWalk net bid.path legs
  pub has : Contains legs pair.1

-- the different pairs of a bid and a leg of one of its walks
pub record ArePairs (net : Net) (bids : List Bid) (pairs : List (ℕ × Leg)) : Type 0 where
  pub each : All (IsPair net bids) pairs
  pub whole : (pair : ℕ × Leg) → IsPair net bids pair → Contains pairs pair
  pub once : AllPairs (λ a b. a ≡ b → ⊥) pairs

-- with so many pairs, a budget that is one less than 2 to the power of their number and one suffices: the bound is the revenue
abbrev pub SufficientBudget : {R : Type 0} → (R → R → Ordering) → Net → Rows R → List Bid → Type 0
SufficientBudget {R} cmp net rows bids =
    (steps budget : ℕ) (plan : Planned R) (pairs : List (ℕ × Leg)) → ArePairs net bids pairs → 2 ^ (length pairs + 1) - 1 ≤ budget
    → IsPlainPlan cmp net rows bids steps budget plan → plan.bound ≡ plan.revenue

-- one entry for each bid, and each walk that is there is worth 1 to 1,000,000,000 cents
abbrev pub EarnEach : Net → List Bid → List (Option (List Leg)) → Type 0
EarnEach net bids walks =
    AllZip (λ bid walk. IfSome walk (λ legs. IsBetween (pos 1) (pos 1000000000) (value_of net bid.path bid.money legs))) bids walks

abbrev pub PlansEarnEach : {R : Type 0} → (R → R → Ordering) → Net → Rows R → List Bid → Type 0
PlansEarnEach {R} cmp net rows bids =
    (steps budget : ℕ) (plan : Planned R) → IsPlainPlan cmp net rows bids steps budget plan → EarnEach net bids plan.choice
