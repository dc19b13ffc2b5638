use Rattle.std.proofs.Common.{◌≡◌, ◌+◌, length, Some, slice_get, refl, sym, ap, ◌∙◌, subst, rules, to_z, of_z}
use Rattle.std.specs.Prelude.{ℤ, ◌+ℤ◌, FitsSigned}
use Rattle.std.specs.Int.{w128}
use Rattle.std.proofs.lemmas.Int.{to_z-of_z}
use Rattle.std.proofs.lemmas.Option.{slice_get_read}
use Rattle.optra_prices.specs.Standings.{IsTermSize}
use Rattle.optra_prices.specs.declared.numbering.Standing.{Standing}
use Rattle.optra_prices.proofs.ListLemmas.{all_at}
use Rattle.optra_prices.proofs.ValueOfLemmas.{IsTermSum, term_sum_more}
use Rattle.optra_prices.proofs.valuing.with_terms.Goals as goal

pub overflow_add-total : goal.overflow_add-total
overflow_add-total c =
    let standings = c.args.standings.now in
    let i = c.loop-standing.standing-index in
    let standing = c.standing-item.result in
    let at : slice_get standings i ≡ Some standing = slice_get_read standings (length standings) i standing refl c.loop-standing-test.true c.standing-item.is in
    let small : IsTermSize standing.term = all_at (λ (s : Standing). IsTermSize s.term) standings i standing c.requires.small at in
    let more = term_sum_more _ standings i (to_z w128 c.loop-standing.total-bits) standing c.loop-standing.invariant c.loop-standing-test.true c.standing-item.is small in
    let low = more.low in
    let high = more.high in
    search rules

pub loop-standing-preserved : goal.loop-standing-preserved
loop-standing-preserved c =
    let standings = c.args.standings.now in
    let i = c.loop-standing.standing-index in
    let standing = c.standing-item.result in
    let at : slice_get standings i ≡ Some standing = slice_get_read standings (length standings) i standing refl c.loop-standing-test.true c.standing-item.is in
    let small : IsTermSize standing.term = all_at (λ (s : Standing). IsTermSize s.term) standings i standing c.requires.small at in
    let total = to_z w128 c.loop-standing.total-bits in
    let more = term_sum_more _ standings i total standing c.loop-standing.invariant c.loop-standing-test.true c.standing-item.is small in
    let low = more.low in
    let high = more.high in
    let fits : FitsSigned w128 standing.term = search rules in
    let whole : FitsSigned w128 (total +ℤ standing.term) = search rules in
    let same : to_z w128 (of_z w128 (total +ℤ to_z w128 (of_z w128 standing.term))) ≡ total +ℤ standing.term =
    ap (λ (z : ℤ). to_z w128 (of_z w128 (total +ℤ z))) (to_z-of_z w128 standing.term fits) ∙ to_z-of_z w128 (total +ℤ standing.term) whole
    in
    subst (λ (z : ℤ). IsTermSum (to_z w128 (of_z w128 c.args.capacity)) standings (i + 1) z) (sym same) more
