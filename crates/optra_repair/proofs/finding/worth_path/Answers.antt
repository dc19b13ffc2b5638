-- What the search leaves.
use Rattle.std.proofs.Common.{subst, rules, pos, ℤ}
use Rattle.std.specs.Prelude.{FitsSigned, MatchBool, ◌<ℤ◌, ◌≤ℤ◌}
use Rattle.std.specs.Int.{w128}
use Rattle.std.proofs.lemmas.Int.{to_z-of_z}
use Rattle.std.proofs.lemmas.Option.{MatchOption-at_some}
use Rattle.optra_dag.specs.Paths.{IsFirstBest}
use Rattle.optra_repair.specs.Parts.{allows_at, weight_at}
use Rattle.optra_repair.proofs.WorthLemmas.{none_worth, tell_worth}
use Rattle.optra_repair.proofs.finding.worth_path.Goals as goal

pub returns-in_default : goal.returns-in_default
returns-in_default c = none_worth c.args.graph.now c.dag.result.now c.args.parts.now c.dag.ensures (rw c.in_default.is at c.in_ok-sum.ensures.none)

pub returns : goal.returns
returns c =
    let parts = c.args.parts.now in
    let best = MatchOption-at_some _ (λ sum. IsFirstBest c.dag.result.now (allows_at parts) (weight_at parts) sum c.best_by.new.buffers) c.in-Some.sum c.in-Some.is c.in_ok-sum.ensures.best in
    let fits : FitsSigned w128 c.in-Some.sum = search rules in
    tell_worth c.args.graph.now c.dag.result.now parts c.dag.ensures c.in-Some.sum c.best_by.new.buffers best c.is_worth.result
    (subst (λ (z : ℤ). MatchBool c.is_worth.result (pos 0 <ℤ z) (z ≤ℤ pos 0)) (to_z-of_z w128 c.in-Some.sum fits) c.is_worth.ensures)
