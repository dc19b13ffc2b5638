use Rattle.std.proofs.Common.{◌∙◌, [], length, sym, ap, subst, arith}
use Rattle.std.specs.Prelude.{IfSome}
use Rattle.optra_checker.specs.BestOnWay.{IsBestAt}
use Rattle.optra_rests.specs.Weights.{IsWorthSize}
use Rattle.optra_checker.proofs.best_on_way.find_best.Goals as goal

pub best_found-requires-clause-bid : goal.best_found-requires-clause-bid
best_found-requires-clause-bid g c = c.requires

pub returns-then-attains_at : goal.returns-then-attains_at
returns-then-attains_at g c = record {
  depth = c.depth.ensures;
  best = c.in_ok-worth.ensures.best;
  size = c.in_ok-worth.ensures.size;
  walk = λ some b at. c.attains_at.ensures.walk c.if-attains_at.true b at;
  free = λ some. c.attains_at.ensures.free c.if-attains_at.true;
}

pub returns : goal.returns
returns g c =
    let F = g.F.RowFamily in
    let worth = sym c.without_legs.ensures.worth in
    let none = ap length c.without_legs.ensures.legs in
    record {
      depth = c.without_legs.ensures.depth ∙ c.depth.ensures;
      best = subst (IsBestAt F.rows_of F.rows_used c.args.node.now c.args.bid []) worth c.in_ok-worth.ensures.best;
      size = subst (λ w. IfSome w IsWorthSize) worth c.in_ok-worth.ensures.size;
      walk = λ some _ _. absurd (omega (arith, some, none));
      free = λ some. absurd (omega (arith, some, none));
    }
