use Rattle.std.proofs.Common.{◌+◌, ◌≤◌, refl, sym, ap, subst, take, arith}
use Rattle.std.specs.Prelude.{All}
use Rattle.optra_checker.specs.declared.best_walk.BestWalk.{BestWalk}
use Rattle.optra_open.proofs.EachLemmas.{all_next}
use Rattle.optra_checker.proofs.best_on_way.count_within.Goals as goal

pub kept-init : goal.kept-init
kept-init c = record { count = refl; within = λ k d l. absurd (omega (arith, l)) }

pub kept-preserved : goal.kept-preserved
kept-preserved c = record {
  count = ap (λ n. n + 1) c.kept.invariant.count;
  within = all_next (λ (best : BestWalk). best.depth ≤ c.args.depth) c.args.kept.now c.kept.best-index c.best-item.result c.kept-test.true c.best-item.is c.kept.invariant.within (let past = c.if-best-depth.false in omega (arith, past));
}

pub returns-then-best-depth-clause-within : goal.returns-then-best-depth-clause-within
returns-then-best-depth-clause-within c = subst (λ n. All (λ (best : BestWalk). best.depth ≤ c.args.depth) (take n c.args.kept.now)) (sym c.kept.invariant.count) c.kept.invariant.within

pub returns-clause-within : goal.returns-clause-within
returns-clause-within c = subst (λ n. All (λ (best : BestWalk). best.depth ≤ c.args.depth) (take n c.args.kept.now)) (sym c.kept.invariant.count) c.kept.invariant.within

pub returns-then-best-depth-clause-count : goal.returns-then-best-depth-clause-count
returns-then-best-depth-clause-count c = let l = c.kept-test.true in let e = c.kept.invariant.count in omega (arith, l, e)

pub returns-clause-count : goal.returns-clause-count
returns-clause-count c = let l = c.kept.auto.best-index-end in let e = c.kept.invariant.count in omega (arith, l, e)
