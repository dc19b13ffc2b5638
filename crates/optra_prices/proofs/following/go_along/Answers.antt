use Rattle.std.proofs.Common.{◌≡◌, ℕ, List, ap, ◌∙◌, subst, rules}
use Rattle.std.specs.Prelude.{ℤ, FitsSigned}
use Rattle.std.specs.Int.{w64}
use Rattle.std.proofs.lemmas.Int.{to_z-of_z}
use Rattle.std.proofs.lemmas.Result.{IfOk-weaker}
use Rattle.optra_prices.specs.Terms.{Setting, setting}
use Rattle.optra_prices.specs.Paths.{IsPathResult}
use Rattle.optra_prices.specs.Courses.{listed_by, prices_at, replies_at, valuation_at}
use Rattle.optra_prices.specs.Following.{IsFollowed}
use Rattle.optra_prices.specs.declared.Priced.{Priced}
use Rattle.optra_prices.proofs.PathLemmas.{ok_by, ok_anyway, result_is}
use Rattle.optra_prices.proofs.following.go_along.Goals as goal

pub returns-clause-course : goal.returns-clause-course
returns-clause-course g c = ok_anyway c.priced_at.result c.in_ok-go_back.ensures.priced.course

pub returns-clause-path : goal.returns-clause-path
returns-clause-path g c =
    let net = c.args.inst.net.now in
    let f = c.args.rows.now in
    let rows = g.F.RowFamily.rows_of f net in
    let bids = c.args.inst.bids.now in
    let node = c.args.node.now in
    let s : Setting g.row.F-Row.Denot = setting net rows (g.F.RowFamily.rows_used f net) bids node in
    let cmp = g.F.Row.Ord.cmp in
    let start = c.args.ends.now.start.now in
    let steps = c.args.ends.now.steps in
    let followed = c.follow.new.kept in
    let best = c.in_ok-best.best in
    let back = c.go_back.new.kept in
    let fits : FitsSigned w64 c.args.incumbent = search rules in
    let ended : IsFollowed cmp s start steps c.args.incumbent followed best = subst (λ (n : ℤ). IsFollowed cmp s start steps n followed best) (to_z-of_z w64 c.args.incumbent fits) c.in_ok-best.ensures in
    let prices : prices_at back ≡ listed_by followed best.prices.items = c.in_ok-go_back.ensures.prices ∙ ap (λ (ps : List (ℕ × ℤ)). listed_by followed ps) c.deref.ensures.value in
    ok_by (λ (p : Priced g.row.F-Row.Denot). p.prices ≡ prices_at back) (λ (p : Priced g.row.F-Row.Denot). p.dual ≡ valuation_at rows back) (λ (p : Priced g.row.F-Row.Denot). IsPathResult cmp net rows bids node start steps c.args.incumbent p)
    c.priced_at.result (λ p is valued. result_is cmp s start steps c.args.incumbent followed back best p ended c.in_ok-go_back.ensures.priced prices is valued) c.priced_at.ensures.prices c.priced_at.ensures.dual

pub returns-clause-replies : goal.returns-clause-replies
returns-clause-replies g c =
    let rows = g.F.RowFamily.rows_of c.args.rows.now c.args.inst.net.now in
    let back = c.go_back.new.kept in
    IfOk-weaker c.priced_at.result (λ (p : Priced g.row.F-Row.Denot). p.dual ≡ valuation_at rows back) (λ (p : Priced g.row.F-Row.Denot). p.dual.replies ≡ replies_at back) (λ p is. ap (λ v. v.replies) is) c.priced_at.ensures.dual
