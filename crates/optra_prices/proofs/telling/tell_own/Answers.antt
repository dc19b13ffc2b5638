use Rattle.std.proofs.Common.{◌+◌, List, Bool, sym, subst}
use Rattle.optra_prices.proofs.TellingLemmas.{OwnBelow, own_none, own_more, own_all}
use Rattle.optra_prices.proofs.telling.tell_own.Goals as goal

pub loop-decision-init : goal.loop-decision-init
loop-decision-init c = own_none c.args.decisions.now c.args.told.now.items

pub loop-decision-preserved : goal.loop-decision-preserved
loop-decision-preserved c =
    let n = c.loop-decision.decision-index in
    let decisions = c.args.decisions.now in
    let told = c.args.told.now.items in
    subst (λ (now : List Bool). OwnBelow (n + 1) decisions told now) (sym c.tell_bid.ensures) (own_more n decisions _ told c.loop-decision.told.items c.loop-decision-test.true c.loop-decision.invariant)

pub returns-clause-own : goal.returns-clause-own
returns-clause-own c = own_all c.loop-decision.decision-index c.args.decisions.now c.args.told.now.items c.loop-decision.told.items c.loop-decision-test.false c.loop-decision.invariant
