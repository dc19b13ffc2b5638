use Rattle.std.proofs.Common.{◌≡◌, ℕ, ◌<◌, get_or, length, sym, ap, ◌∙◌, subst, arith, inl, inr}
use Rattle.std.specs.Prelude.{All}
use Rattle.std.proofs.lemmas.Bool.{cases_lt}
use Rattle.std.proofs.lemmas.List.{get_or_default}
use Rattle.optra_prices.specs.Rooms.{IsNumberWithin}
use Rattle.optra_prices.specs.Uses.{arc_touches}
use Rattle.optra_prices.specs.declared.touch.Touch.{Touch}
use Rattle.optra_prices.proofs.putting.are_arcs_within.Goals as goal

pub loop-k-preserved : goal.loop-k-preserved
loop-k-preserved c i d l =
    let path = c.args.path.now in
    let n = c.loop-k.k-index in
    let within = λ (touch : Touch). IsNumberWithin c.args.room.now touch.row in
    let told = λ (k : ℕ). All within (arc_touches c.args.groups.now c.args.table.now k) in
    let test = c.loop-k-test.true in
    elim (cases_lt i n) as (λ _. told (get_or path i d)) [
      | inl before ↦ c.loop-k.invariant i d before
      | inr after ↦
          let same : i ≡ n = omega (arith, l, after) in
          let inside : i < length path = omega (arith, same, test) in
          let here : get_or path i d ≡ get_or path n 0 = get_or_default path i d 0 inside ∙ ap (λ (j : ℕ). get_or path j 0) same in
          subst told (sym here) (subst (All within) c.arc_touches.ensures (c.are_touches_within.ensures.0 c.if-not-are_touches_within.false))
    ]
