-- A plan by itself is the plan of its bids, where the rule of the rows is freedom of conflict.
use Rattle.std.proofs.Common.{ℕ, List}
use Rattle.std.specs.declared.cmp.Ordering.{Ordering}
use Rattle.optra_network.specs.Net.{Net}
use Rattle.optra_bid.specs.declared.bids.Bid.{Bid}
use Rattle.optra_walk.specs.Families.{Rows, Entry}
use Rattle.optra_search.specs.Plans.{IsCertifiedPlan}
use Rattle.optra_search.specs.Planner.{Planned}
use Rattle.optra_verdict.specs.Promises.{TellsConflicts}
use Rattle.optra_verdict.proofs.PromiseLemmas.{promise-from_bounded}
use Rattle.optra_play.specs.Plans.{IsPlanOf}

pub plan-is_plan : {R : Type 0} (cmp : R → R → Ordering) (net : Net) (rows : Rows R) (Keeps : List Entry → Type 0) (bids : List Bid) → TellsConflicts net bids Keeps
    → (steps budget : ℕ) (plan : Planned R) → IsCertifiedPlan cmp net rows Keeps bids steps budget plan → IsPlanOf cmp net rows Keeps bids steps budget plan
plan-is_plan cmp net rows Keeps bids tells steps budget plan is = record {
  plan_is = is;
  promise = promise-from_bounded net rows Keeps bids tells plan.revenue plan.bound plan.choice plan.tree is.certified.valid is.bounded;
}
