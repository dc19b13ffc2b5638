use Rattle.std.proofs.Common.{List, subst, unwrap_or, rules}
use Rattle.std.specs.Prelude.{ℤ, FitsSigned}
use Rattle.std.specs.Int.{w64}
use Rattle.std.proofs.lemmas.Int.{to_z-of_z}
use Rattle.optra_node.specs.Duals.{PriceList}
use Rattle.optra_prices.specs.Paths.{IsPathResult}
use Rattle.optra_search.specs.Openings.{front, start_below}
use Rattle.optra_search.specs.declared.waiting.Waiting.{Waiting}
use Rattle.optra_search.proofs.pricing.path_result.Goals as goal

pub returns-clause-path : goal.returns-clause-path
returns-clause-path g c =
    let net = c.args.inst.net.now in
    let rows = g.F.RowFamily.rows_of c.args.rows.now net in
    let before = c.args.search.now in
    let is = λ (start : PriceList g.row.F-Row.Denot). IsPathResult g.F.Row.Ord.cmp net rows c.args.inst.bids.now before.node start c.args.steps before.revenue c.in_ok-priced.priced in
    let whole : FitsSigned w64 before.revenue = search rules in
    subst (λ (waiting : List (Waiting g.row.F-Row.Denot)). is (unwrap_or c.args.start.now (start_below (front waiting)))) c.deref.ensures.value
    (subst is c.start_of-from.ensures
    (subst (λ (n : ℤ). IsPathResult g.F.Row.Ord.cmp net rows c.args.inst.bids.now before.node c.start_of-from.result.now c.args.steps n c.in_ok-priced.priced) (to_z-of_z w64 before.revenue whole) c.in_ok-priced.ensures.path))
