-- What the planner of payments finds: the numbers of the plain planner's plan.
use Rattle.std.proofs.Common.{◌≡◌, ◌∙◌, List, ap, sym}
use Rattle.std.specs.declared.cmp.Ordering.{Ordering}
use Rattle.optra_network.specs.Net.{Net}
use Rattle.optra_bid.specs.declared.bids.Bid.{Bid}
use Rattle.optra_walk.specs.Families.{Rows, Entry}
use Rattle.optra_payment.specs.Planners.{Encloses}
use Rattle.optra_payment.specs.declared.Found.{Found}
use Rattle.optra_search.specs.Planner.{Planned}
use Rattle.optra_search.specs.Plans.{IsCertifiedPlan}
use Rattle.optra_search.specs.declared.Limits.{Limits}

-- the revenue and the bound of a plan
abbrev pub found_by : {R : Type 0} → Planned R → Found
found_by plan = record { revenue = plan.revenue; bound = plan.bound }

-- The revenue and the bound are those of the plan of these bids, with so many price steps and this budget.
pub record IsPlanFound {R : Type 0} (cmp : R → R → Ordering) (net : Net) (rows : Rows R) (Keeps : List Entry → Type 0) (bids : List Bid) (limits : Limits) (found : Found) : Type 0 where
  pub plan : Planned R
  pub plan_is : IsCertifiedPlan cmp net rows Keeps bids limits.steps limits.budget plan
  pub numbers : found ≡ found_by plan

-- there is one plan, so one revenue and one bound are found
pub one_found : {R : Type 0} (cmp : R → R → Ordering) (net : Net) (rows : Rows R) (Keeps : List Entry → Type 0) (bids : List Bid) (limits : Limits) (a b : Found)
    → IsPlanFound cmp net rows Keeps bids limits a → IsPlanFound cmp net rows Keeps bids limits b → a ≡ b
one_found {R} cmp net rows Keeps bids limits a b first second =
    first.numbers ∙ ap (λ (plan : Planned R). found_by plan) (second.plan_is.only first.plan first.plan_is.by_search) ∙ sym second.numbers

-- its choice keeps the rule and earns the revenue, no choice that keeps it earns more than the bound, and the bound is at most the sum of the bases
pub found_encloses : {R : Type 0} (cmp : R → R → Ordering) (net : Net) (rows : Rows R) (Keeps : List Entry → Type 0) (bids : List Bid) (limits : Limits) (found : Found)
    → IsPlanFound cmp net rows Keeps bids limits found → Encloses net Keeps bids found
found_encloses cmp net rows Keeps bids limits found is =
    let plan = is.plan in
    let valid = is.plan_is.certified.valid in
    rw is.numbers (record {
      earned = record { walks = plan.choice; allowed = record { choice = valid.walks; rule = valid.rule }; earns = sym valid.revenue_is };
      bounded = λ walks allowed. is.plan_is.bounded walks allowed.choice allowed.rule;
      within = is.plan_is.numbers.bases;
    })
