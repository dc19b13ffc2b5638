-- What is asked of the plan, as the code holds it.
use Rattle.std.specs.Prelude.{ℕ, List, Option}
use Rattle.optra_search.specs.declared.Limits.{Limits}
use Rattle.optra_top.specs.PlanCommand.{PlanAsked}

abbrev pub plan_asked : Limits → Option (List ℕ) → PlanAsked
plan_asked limits cert = record { steps = limits.steps; budget = limits.budget; cert = cert }
