-- One decision more that is no yes.
use Rattle.std.proofs.Common.{◌-◌, false, inl, inr, refl, arith}
use Rattle.optra_walk.specs.declared.Action.TheVariants.{Pass}
use Rattle.optra_node.specs.declared.Decision.{Decision}
use Rattle.optra_open.proofs.ToComeLemmas.{none_more, yes_there, yes_inside}
use Rattle.optra_open.proofs.node_room.last_yes.Goals as goal

abbrev any_decision : Decision
any_decision = record { bid = 0; leg = record { track = record { 0 = 0 }; depart = 0; from_halt = false; action = Pass }; yes = false }

pub back-init : goal.back-init
back-init c = record {
  within = omega arith;
  none = λ j l yes. let inside = yes_inside c.args.decisions.now j yes in omega (arith, l, inside);
}

pub back-preserved : goal.back-preserved
back-preserved c = record {
  within = omega arith;
  none = none_more c.args.decisions.now (c.back.left - 1) any_decision c.if-decision.false (λ j l. c.back.invariant.none j (let some = c.back-test.true in omega (arith, l, some)));
}

pub returns-then-decision-clause-last : goal.returns-then-decision-clause-last
returns-then-decision-clause-last c = record {
  yes = inr (yes_there c.args.decisions.now (c.back.left - 1) any_decision (let some = c.back-test.true in let within = c.back.invariant.within in omega (arith, some, within)) c.if-decision.true);
  last = λ j l yes. c.back.invariant.none j (let some = c.back-test.true in omega (arith, l, some)) yes;
}

pub returns-clause-last : goal.returns-clause-last
returns-clause-last c = record {
  yes = inl refl;
  last = λ j l yes. c.back.invariant.none j (let none = c.back-test.false in omega (arith, l, none)) yes;
}
