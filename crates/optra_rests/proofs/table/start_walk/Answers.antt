-- A start, and the rest that the table has for it.
use Rattle.std.proofs.Common.{◌≡◌, ◌∙◌, Some, None, Option, subst, sym, ap, ℤ, to_z, of_z}
use Rattle.std.specs.Prelude.{◌+ℤ◌}
use Rattle.std.specs.Int.{w128}
use Rattle.optra_walk.specs.Moves.{start_state}
use Rattle.optra_walk.specs.Shares.{start_value, IsAdded}
use Rattle.optra_rests.specs.Rests.{IsBestRest, AnyLeg}
use Rattle.optra_rests.specs.Sizes.{IsWholeRest}
use Rattle.optra_rests.specs.Starts.{IsBestStart, IsAt}
use Rattle.optra_rests.specs.Tables.{rest_at}
use Rattle.optra_rests.proofs.ProductLemmas.{whole_rest_same, whole_same}
use Rattle.optra_rests.proofs.StartLemmas.{start_rest, start_best, start_no_rest, start_refused, rest_whole}
use Rattle.optra_rests.proofs.table.start_walk.Goals as goal

pub returns-then-not-may_start : goal.returns-then-not-may_start
returns-then-not-may_start g c =
    let w = g.W.Weighing.weights c.args.weighing.now in
    start_refused w c.args.net.now c.args.bid.now c.args.minute (sym c.may_start.ensures ∙ c.if-not-may_start.true)

pub returns-in_err-rest : goal.returns-in_err-rest
returns-in_err-rest g c =
    let w = g.W.Weighing.weights c.args.weighing.now in
    let e : rest_at c.args.table.now (start_state c.args.bid.now.path c.args.minute) ≡ None = ap (rest_at c.args.table.now) (sym c.make_start.ensures) ∙ sym c.rest.ensures ∙ c.in_err-rest.was in
    subst (λ (o : Option ℤ). IsBestStart w c.args.net.now c.args.bid.now (IsAt c.args.minute) o) (sym c.from_residual.ensures)
    (start_no_rest w c.args.net.now c.args.bid.now c.args.minute
    (subst (λ (o : Option ℤ). IsBestRest w c.args.net.now c.args.bid.now (start_state c.args.bid.now.path c.args.minute) AnyLeg o) e
    (start_rest w c.args.net.now c.args.bid.now c.args.table.now c.args.minute c.requires.filled c.requires.window)))

pub whole-requires-clause-rest : goal.whole-requires-clause-rest
whole-requires-clause-rest g c =
    let w = g.W.Weighing.weights c.args.weighing.now in
    let e : rest_at c.args.table.now (start_state c.args.bid.now.path c.args.minute) ≡ Some c.in_ok-rest.rest = ap (rest_at c.args.table.now) (sym c.make_start.ensures) ∙ sym c.rest.ensures ∙ c.in_ok-rest.was in
    let best : IsBestRest w c.args.net.now c.args.bid.now (start_state c.args.bid.now.path c.args.minute) AnyLeg (Some c.in_ok-rest.rest) =
    subst (λ (o : Option ℤ). IsBestRest w c.args.net.now c.args.bid.now (start_state c.args.bid.now.path c.args.minute) AnyLeg o) e
    (start_rest w c.args.net.now c.args.bid.now c.args.table.now c.args.minute c.requires.filled c.requires.window) in
    let size = rest_whole c.args.minute c.in_ok-rest.rest best.size in
    subst IsWholeRest (sym (whole_rest_same c.in_ok-rest.rest size)) size

pub returns : goal.returns
returns g c =
    let w = g.W.Weighing.weights c.args.weighing.now in
    let e : rest_at c.args.table.now (start_state c.args.bid.now.path c.args.minute) ≡ Some c.in_ok-rest.rest = ap (rest_at c.args.table.now) (sym c.make_start.ensures) ∙ sym c.rest.ensures ∙ c.in_ok-rest.was in
    let best : IsBestRest w c.args.net.now c.args.bid.now (start_state c.args.bid.now.path c.args.minute) AnyLeg (Some c.in_ok-rest.rest) =
    subst (λ (o : Option ℤ). IsBestRest w c.args.net.now c.args.bid.now (start_state c.args.bid.now.path c.args.minute) AnyLeg o) e
    (start_rest w c.args.net.now c.args.bid.now c.args.table.now c.args.minute c.requires.filled c.requires.window) in
    let size = rest_whole c.args.minute c.in_ok-rest.rest best.size in
    let v = c.start_value.ensures.value in
    let range = subst IsAdded v c.start_value.ensures.range in
    let t = whole_same c.start_value.result c.in_ok-rest.rest c.whole.result c.start_value.ensures.range size c.whole.ensures in
    let n : to_z w128 (of_z w128 c.whole.result) ≡ start_value c.args.bid.now c.args.minute +ℤ c.in_ok-rest.rest = t ∙ ap (λ (z : ℤ). z +ℤ c.in_ok-rest.rest) v in
    start_best w c.args.net.now c.args.bid.now c.args.minute c.in_ok-rest.rest (to_z w128 (of_z w128 c.whole.result)) c.requires.filled.setting.proper (sym c.may_start.ensures ∙ c.if-not-may_start.false)
    c.requires.window range best n
