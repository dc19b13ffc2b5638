use Rattle.std.proofs.Common.{◌≡◌, [], subst, arith}
use Rattle.std.specs.Prelude.{All}
use Rattle.std.proofs.lemmas.List.{nil_from_length}
use Rattle.optra_prices.specs.declared.touch.Touch.{Touch}
use Rattle.optra_prices.proofs.NarrowTouchLemmas.{narrow_once}
use Rattle.optra_prices.proofs.touch_slice.TouchSlice.are_once.Goals as goal

pub returns : goal.returns
returns c = λ once.
    let i = c.self.inside in
    let none : i.wide.now ≡ [] = nil_from_length i.wide.now (grind arith) in
    subst (All (λ (t : Touch). t.uses ≡ 1)) c.self.view_is (narrow_once i.narrow.now i.wide.now none)
