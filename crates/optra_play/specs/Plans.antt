-- What the plan of some bids is, apart from how it is printed.
use Rattle.std.specs.Prelude.{ℕ, List}
use Rattle.std.specs.declared.cmp.Ordering.{Ordering}
use Rattle.optra_network.specs.Net.{Net}
use Rattle.optra_bid.specs.declared.bids.Bid.{Bid}
use Rattle.optra_walk.specs.Families.{Rows, Entry}
use Rattle.optra_search.specs.Planner.{Planned}
use Rattle.optra_search.specs.Plans.{IsCertifiedPlan}
use Rattle.optra_verdict.specs.Promises.{KeepsPromise}

-- This is the plan of the bids, by rows that state the rule, with so many price steps and this budget: the plan of the plain
-- planner by these rows, with all that such a plan is by itself, and it keeps the planning promise.
pub record IsPlanOf {R : Type 0} (cmp : R → R → Ordering) (net : Net) (rows : Rows R) (Keeps : List Entry → Type 0) (bids : List Bid) (steps budget : ℕ) (plan : Planned R) : Type 0 where
  pub plan_is : IsCertifiedPlan cmp net rows Keeps bids steps budget plan
  pub promise : KeepsPromise net bids plan.choice plan.revenue plan.bound
