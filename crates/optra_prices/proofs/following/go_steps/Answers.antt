use Rattle.std.proofs.Common.{◌≡◌, ◌+◌, ◌∷◌, ◌++◌, [], true, false, length, length-append, sym, ◌∙◌, subst, arith, rules, to_z, of_z}
use Rattle.std.specs.Prelude.{ℤ, ◌≤ℤ◌, FitsSigned}
use Rattle.std.specs.Int.{w64, w128}
use Rattle.std.proofs.lemmas.Int.{to_z-of_z}
use Rattle.optra_node.specs.Duals.{whole_cents}
use Rattle.optra_prices.specs.Courses.{candidate_at}
use Rattle.optra_prices.specs.Terms.{Setting, setting}
use Rattle.optra_prices.specs.Following.{IsFollowed}
use Rattle.optra_prices.proofs.PathLemmas.{low_if, high_if, following_more, followed_low, followed_all}
use Rattle.optra_prices.proofs.following.go_steps.Goals as goal

clash : true ≡ false → ⊥
clash e = cc

pub returns-then-is_low : goal.returns-then-is_low
returns-then-is_low g c =
    let net = c.args.inst.net.now in
    let f = c.args.rows.now in
    let s : Setting g.row.F-Row.Denot = setting net (g.F.RowFamily.rows_of f net) (g.F.RowFamily.rows_used f net) c.args.inst.bids.now c.args.node.now in
    let cmp = g.F.Row.Ord.cmp in
    let start = c.args.ends.now.start.now in
    let steps = c.args.ends.now.steps in
    let fits : FitsSigned w64 c.args.incumbent = search rules in
    let incumbent = to_z w64 (of_z w64 c.args.incumbent) in
    let kept = c.steps.kept in
    let whole : FitsSigned w128 kept.value = search rules in
    let best = c.steps.best in
    let path = c.steps.invariant.0 in
    let count = c.steps.invariant.1 in
    let h = c.steps.invariant.2 in
    let low = subst (λ v. whole_cents v ≤ℤ incumbent) (to_z-of_z w128 kept.value whole) (c.is_low.ensures.0 c.if-is_low.true) in
    subst (λ (n : ℤ). IsFollowed cmp s start steps n kept best) (to_z-of_z w64 c.args.incumbent fits)
    (followed_low cmp s start steps incumbent kept best path h (c.steps.k + 1) (omega arith) (low_if cmp s start steps incumbent kept best path h low))

pub steps-preserved : goal.steps-preserved
steps-preserved g c =
    let net = c.args.inst.net.now in
    let f = c.args.rows.now in
    let rows = g.F.RowFamily.rows_of f net in
    let s : Setting g.row.F-Row.Denot = setting net rows (g.F.RowFamily.rows_used f net) c.args.inst.bids.now c.args.node.now in
    let cmp = g.F.Row.Ord.cmp in
    let start = c.args.ends.now.start.now in
    let steps = c.args.ends.now.steps in
    let incumbent = to_z w64 (of_z w64 c.args.incumbent) in
    let kept = c.steps.kept in
    let whole : FitsSigned w128 kept.value = search rules in
    let best = c.steps.best in
    let path = c.steps.invariant.0 in
    let count = c.steps.invariant.1 in
    let h = c.steps.invariant.2 in
    let high = λ (low : whole_cents kept.value ≤ℤ incumbent). clash (sym (c.is_low.ensures.1 (subst (λ v. whole_cents v ≤ℤ incumbent) (sym (to_z-of_z w128 kept.value whole)) low)) ∙ c.if-is_low.false) in
    let gone = c.in_ok-go_on.ensures in
    let next = candidate_at rows c.go_on.new.kept in
    let more : length (path ++ next ∷ []) ≡ length path + 1 = length-append path (next ∷ []) in
    let turned = following_more cmp s start steps incumbent kept c.go_on.new.kept best c.keep_less.new.best path c.steps.k h gone.priced gone.keeps c.in_ok-keep_less.ensures count (omega arith) (high_if cmp s start steps incumbent kept best path h high) gone.step in
    (path ++ next ∷ [], omega arith, turned)

pub returns : goal.returns
returns g c =
    let net = c.args.inst.net.now in
    let f = c.args.rows.now in
    let s : Setting g.row.F-Row.Denot = setting net (g.F.RowFamily.rows_of f net) (g.F.RowFamily.rows_used f net) c.args.inst.bids.now c.args.node.now in
    let cmp = g.F.Row.Ord.cmp in
    let start = c.args.ends.now.start.now in
    let steps = c.args.ends.now.steps in
    let fits : FitsSigned w64 c.args.incumbent = search rules in
    let incumbent = to_z w64 (of_z w64 c.args.incumbent) in
    let count = c.steps.invariant.1 in
    subst (λ (n : ℤ). IsFollowed cmp s start steps n c.steps.kept c.steps.best) (to_z-of_z w64 c.args.incumbent fits)
    (followed_all cmp s start steps incumbent c.steps.kept c.steps.best c.steps.invariant.0 c.steps.invariant.2 (omega arith))
