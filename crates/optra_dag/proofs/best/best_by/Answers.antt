-- The path by the weights in 64 bits is the path, and its sum in 128 bits is the sum.
use Rattle.std.proofs.Common.{ℕ, ◌∙◌, sym, subst, rules, ℤ, List}
use Rattle.std.specs.Prelude.{FitsSigned}
use Rattle.std.specs.Int.{w64, w128}
use Rattle.std.proofs.lemmas.Int.{to_z-of_z}
use Rattle.std.proofs.lemmas.Option.{MatchOption-at_some}
use Rattle.optra_dag.specs.Paths.{IsFirstBest, IsPath}
use Rattle.optra_dag.proofs.SameLemmas.{best_same, path_same, within_same}
use Rattle.optra_dag.proofs.best.best_by.Goals as goal

pub narrow_best_in-requires-clause-weights : goal.narrow_best_in-requires-clause-weights
narrow_best_in-requires-clause-weights g c =
    within_same c.args.dag.now (g.W.Weight.allows c.args.weight.now) (g.W.Weight.weight c.args.weight.now) (g.N.NarrowWeight.allows c.args.narrow.now) (g.N.NarrowWeight.weight c.args.narrow.now) c.requires.same
    c.args.most c.requires.most

pub returns-clause-best : goal.returns-clause-best
returns-clause-best g c =
    let dag = c.args.dag.now in
    let allows = g.W.Weight.allows c.args.weight.now in
    let weight = g.W.Weight.weight c.args.weight.now in
    let allows' = g.N.NarrowWeight.allows c.args.narrow.now in
    let weight' = g.N.NarrowWeight.weight c.args.narrow.now in
    let path = c.narrow_best_in.new.buffers in
    let best = MatchOption-at_some _ (λ sum. IsFirstBest dag allows' weight' sum path) c.in-Some.sum c.in-Some.is c.in_ok-sum.ensures.best in
    let narrow : FitsSigned w64 c.in-Some.sum = search rules in
    let wide : FitsSigned w128 c.from.result = search rules in
    let whole = to_z-of_z w128 c.from.result wide ∙ c.from.ensures ∙ to_z-of_z w64 c.in-Some.sum narrow in
    subst (λ (z : ℤ). IsFirstBest dag allows weight z path) (sym whole) (best_same dag allows weight allows' weight' c.requires.same c.in-Some.sum path best)

pub returns-in_default-clause-none : goal.returns-in_default-clause-none
returns-in_default-clause-none g c path is =
    let none : (path : List ℕ) → IsPath c.args.dag.now (g.N.NarrowWeight.allows c.args.narrow.now) path → ⊥ = rw c.in_default.is at c.in_ok-sum.ensures.none in
    none path
    (path_same c.args.dag.now (g.W.Weight.allows c.args.weight.now) (g.W.Weight.weight c.args.weight.now) (g.N.NarrowWeight.allows c.args.narrow.now) (g.N.NarrowWeight.weight c.args.narrow.now) c.requires.same path is)
