-- The order is that in which the bids are taken, and what is placed in it keeps the rows and so the rule.
use Rattle.std.proofs.Common.{◌≢◌, ℕ, List, length, Option, sym, ◌∙◌, subst}
use Rattle.std.specs.Prelude.{IfSome}
use Rattle.std.specs.List.{AllPairs}
use Rattle.optra_bid.specs.declared.bids.Bid.{Bid}
use Rattle.optra_walk.specs.declared.Leg.{Leg}
use Rattle.optra_walk.specs.Walks.{IsWalk}
use Rattle.optra_walk.specs.Families.{entries_of}
use Rattle.optra_walk.proofs.UsableLemmas.{choice_usable}
use Rattle.optra_node.proofs.DualLemmas.{zip_length}
use Rattle.optra_prices.proofs.RepairLemmas.{repair_fits}
use Rattle.optra_repair.proofs.TakingLemmas.{taken_once}
use Rattle.optra_repair.proofs.TurnLemmas.{is_repair}
use Rattle.optra_repair.proofs.repairing.repair_over.Goals as goal

pub taking_order-requires-clause-replies : goal.taking_order-requires-clause-replies
taking_order-requires-clause-replies g c =
    sym (zip_length (λ (bid : Bid) (walk : Option (List Leg)). IfSome walk (IsWalk c.args.inst.net.now bid.path)) c.args.inst.bids.now c.args.dual.now.replies c.requires.replies) ∙ sym c.requires.terms

pub place_all-requires-clause-once : goal.place_all-requires-clause-once
place_all-requires-clause-once g c =
    subst (AllPairs (λ (a b : ℕ). a ≢ b)) (sym c.deref.ensures.value) (taken_once c.args.dual.now (length c.args.dual.now.terms) c.in_ok-order.order.items c.in_ok-order.ensures)

pub returns-clause-choice : goal.returns-clause-choice
returns-clause-choice g c =
    let net = c.args.inst.net.now in
    let rows = g.F.RowFamily.rows_of c.args.rows.now net in
    let bids = c.args.inst.bids.now in
    let is = is_repair net rows bids c.args.node.now c.deref.result.now c.args.dual.now c.in_ok-order.order.items c.in_ok-walks.walks.items c.requires.terms c.in_ok-order.ensures c.deref.ensures.value c.in_ok-walks.ensures in
    (repair_fits net rows bids c.args.node.now c.args.dual.now c.in_ok-walks.walks.items is).is_choice

pub returns-clause-keeps : goal.returns-clause-keeps
returns-clause-keeps g c =
    let net = c.args.inst.net.now in
    let f = c.args.rows.now in
    let rows = g.F.RowFamily.rows_of f net in
    let bids = c.args.inst.bids.now in
    let walks = c.in_ok-walks.walks.items in
    let proper = c.args.inst.proper in
    let is = is_repair net rows bids c.args.node.now c.deref.result.now c.args.dual.now c.in_ok-order.order.items walks c.requires.terms c.in_ok-order.ensures c.deref.ensures.value c.in_ok-walks.ensures in
    let fit = repair_fits net rows bids c.args.node.now c.args.dual.now walks is in
    (g.met.F.RowFamily.rule_by_rows f net (entries_of bids walks) proper (choice_usable net proper bids walks fit.is_choice)).1 fit.fits
