use Rattle.std.proofs.Common.{◌≤◌, List, ℕ, length, get_or, subst, arith}
use Rattle.optra_prices.specs.Holders.{TellsHolders}
use Rattle.optra_prices.proofs.TellingLemmas.{due_none, due_more, due_all}
use Rattle.optra_prices.proofs.telling.tell_due.Goals as goal

pub loop-g-init : goal.loop-g-init
loop-g-init c = due_none c.args.columns.now.due.items c.args.holders.now c.args.told.now.items

pub loop-g-preserved : goal.loop-g-preserved
loop-g-preserved c =
    let due = c.args.columns.now.due.items in
    let n = c.loop-g.g-index in
    let mid = c.loop-g.told.items in
    let new = c.tell_holders.new.fallen.items in
    due_more n due c.args.holders.now c.args.told.now.items mid new c.loop-g.invariant (subst (λ (gs : List ℕ). TellsHolders c.args.holders.now (get_or gs n 0) mid new) c.deref-g-items.ensures.value c.tell_holders.ensures)

pub returns-clause-tells : goal.returns-clause-tells
returns-clause-tells c =
    let past : length c.args.columns.now.due.items ≤ c.loop-g.g-index = omega arith in
    due_all c.loop-g.g-index c.args.columns.now c.args.tables.now c.args.holders.now c.args.told.now.items c.loop-g.told.items c.requires.columns c.requires.holders c.requires.count past c.loop-g.invariant
