use Rattle.std.proofs.Common.{◌≡◌, [], sym, ◌∙◌, arith, drop-cons, false}
use Rattle.std.proofs.lemmas.Grind.{common_steps}
use Rattle.optra_walk.specs.Orders.{legs_cmp}
use Rattle.optra_walk.specs.declared.Action.TheVariants.{Pass}
use Rattle.optra_walk.specs.declared.Leg.{Leg}
use Rattle.optra_walk.proofs.ordering.legs_order.Goals as goal

any_leg : Leg
any_leg = record { track = record { 0 = 0 }; depart = 0; from_halt = false; action = Pass }

pub returns-in_default : goal.returns-in_default
returns-in_default c =
    let none : c.loop-leg.others.now ≡ [] = grind (arith, common_steps) in
    let at = drop-cons c.args.a.now c.loop-leg.leg-index any_leg c.loop-leg-test.true in
    sym (c.loop-leg.invariant ∙ (λ j. legs_cmp (at j) (none j)))
