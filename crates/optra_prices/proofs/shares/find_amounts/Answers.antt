use Rattle.std.proofs.Common.{◌≡◌, ◌∙◌, length, ap, subst}
use Rattle.std.specs.Prelude.{All}
use Rattle.optra_prices.specs.declared.touch.Touch.{Touch}
use Rattle.optra_prices.proofs.AmountLemmas.{ones_put}
use Rattle.optra_prices.proofs.shares.find_amounts.Goals as goal

pub returns-then-are_once : goal.returns-then-are_once
returns-then-are_once c =
    let touches = c.args.groups.now.touches in
    let same = c.slice-touches.ensures in
    let once = subst (All (λ (t : Touch). t.uses ≡ 1)) same (c.are_once.ensures c.if-are_once.true) in
    ones_put touches c.len.result c.ones.result.items (c.len.ensures ∙ ap length same) once c.ones.ensures
