use Rattle.std.proofs.Common.{◌≡◌, ◌∙◌, [], length, sym, subst}
use Rattle.std.proofs.lemmas.Bool.{eqb-true}
use Rattle.std.proofs.lemmas.List.{nil_from_length}
use Rattle.optra_checker.specs.BestOnWay.{IsBestAt}
use Rattle.optra_checker.proofs.best_on_way.BestOnWay.advance_at.Goals as goal

pub advance-requires-clause-bid : goal.advance-requires-clause-bid
advance-requires-clause-bid g c = c.requires.bid

pub advance-requires-clause-latest : goal.advance-requires-clause-latest
advance-requires-clause-latest g c = c.requires.latest

pub advance-requires-clause-walks : goal.advance-requires-clause-walks
advance-requires-clause-walks g c = c.requires.walks

pub last_if_best_at-requires-clause-bid : goal.last_if_best_at-requires-clause-bid
last_if_best_at-requires-clause-bid g c = c.requires.bid

pub last_if_best_at-requires-clause-ascending : goal.last_if_best_at-requires-clause-ascending
last_if_best_at-requires-clause-ascending g c = c.requires.ascending

pub last_if_best_at-requires-clause-proper : goal.last_if_best_at-requires-clause-proper
last_if_best_at-requires-clause-proper g c = c.requires.proper

pub last_if_best_at-requires-clause-walks : goal.last_if_best_at-requires-clause-walks
last_if_best_at-requires-clause-walks g c = c.in_ok-worth.ensures.walks

pub best_found-requires-clause-bid : goal.best_found-requires-clause-bid
best_found-requires-clause-bid g c = c.requires.bid

pub best_found-requires-clause-ascending : goal.best_found-requires-clause-ascending
best_found-requires-clause-ascending g c = c.requires.ascending

pub best_found-requires-clause-proper : goal.best_found-requires-clause-proper
best_found-requires-clause-proper g c = c.requires.proper

pub returns-clause-best : goal.returns-clause-best
returns-clause-best g c = c.best_found.ensures.best

pub returns-clause-size : goal.returns-clause-size
returns-clause-size g c = c.best_found.ensures.size

pub returns-then-is_empty-clause-walks : goal.returns-then-is_empty-clause-walks
returns-then-is_empty-clause-walks g c = c.in_ok-worth.ensures.walks

pub returns-then-is_empty-clause-size : goal.returns-then-is_empty-clause-size
returns-then-is_empty-clause-size g c = c.in_ok-worth.ensures.size

pub returns-then-is_empty-clause-best : goal.returns-then-is_empty-clause-best
returns-then-is_empty-clause-best g c =
    let F = g.F.RowFamily in
    let none : c.args.prices.now ≡ [] = nil_from_length c.args.prices.now (eqb-true (length c.args.prices.now) 0 (sym c.is_empty.ensures ∙ c.if-is_empty.true)) in
    subst (λ ps. IsBestAt F.rows_of F.rows_used c.args.node.now c.args.bid ps c.in_ok-worth.worth) (sym none) c.in_ok-worth.ensures.best

pub returns-in-Some-clause-walks : goal.returns-in-Some-clause-walks
returns-in-Some-clause-walks g c = c.in_ok-worth.ensures.walks

pub returns-in-Some-clause-best : goal.returns-in-Some-clause-best
returns-in-Some-clause-best g c = c.in-Some.ensures.best

pub returns-in-Some-clause-size : goal.returns-in-Some-clause-size
returns-in-Some-clause-size g c = c.in-Some.ensures.size
