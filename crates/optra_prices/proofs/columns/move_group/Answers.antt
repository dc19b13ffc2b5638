use Rattle.std.proofs.Common.{◌≡◌, ◌∙◌, ◌<◌, length, set, ap, arith, rules, to_z, of_z}
use Rattle.std.specs.Prelude.{ℤ, pos, ◌+ℤ◌, ◌*ℤ◌, FitsSigned}
use Rattle.std.specs.Int.{w64}
use Rattle.std.proofs.lemmas.Int.{to_z-of_z}
use Rattle.std.proofs.lemmas.List.{get_or_read}
use Rattle.optra_prices.specs.Columns.{price_at}
use Rattle.optra_prices.proofs.columns.move_group.Goals as goal

pub returns-then-g-len : goal.returns-then-g-len
returns-then-g-len c =
    let running = c.args.running.now.items in
    let g = c.args.g in
    let within : g < length running = omega arith in
    let before = c.index.result.now in
    let f1 : FitsSigned w64 before = search rules in
    let f2 : FitsSigned w64 c.args.by = search rules in
    let f3 : FitsSigned w64 c.group_move.result = search rules in
    let f4 : FitsSigned w64 c.moved_price.result = search rules in
    let read : to_z w64 (of_z w64 before) ≡ price_at running g = to_z-of_z w64 before f1 ∙ get_or_read running g before within c.index.ensures (pos 0) in
    let by : to_z w64 (of_z w64 c.group_move.result) ≡ c.args.by *ℤ pos c.args.uses = to_z-of_z w64 c.group_move.result f3 ∙ c.group_move.ensures.value ∙ ap (λ (z : ℤ). z *ℤ pos c.args.uses) (to_z-of_z w64 c.args.by f2) in
    ap (set running g) (to_z-of_z w64 c.moved_price.result f4 ∙ c.moved_price.ensures ∙ ap (λ (z : ℤ). z +ℤ to_z w64 (of_z w64 c.group_move.result)) read ∙ ap (λ (z : ℤ). price_at running g +ℤ z) by)
