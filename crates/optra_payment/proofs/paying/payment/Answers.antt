-- The others' bids are an instance, and what is found of them encloses what the others' walks are worth.
use Rattle.std.proofs.Common.{ℕ, List, sym, subst, ◌∙◌}
use Rattle.std.specs.Prelude.{◌≤ℤ◌}
use Rattle.optra_bid.specs.Instances.{IsInstance}
use Rattle.optra_payment.specs.Parts.{is_others, others_bids, others_worth}
use Rattle.optra_payment.specs.Planners.{Encloses}
use Rattle.optra_payment.specs.Allowed.{IsEarned}
use Rattle.optra_payment.proofs.PartLemmas.{part_instance}
use Rattle.optra_payment.proofs.PaymentLemmas.{part_earned, earned_within, others_enclosed, enclosed_few, holds}
use Rattle.optra_payment.proofs.paying.payment.Goals as goal

pub find-requires : goal.find-requires
find-requires g c =
    subst (IsInstance c.args.inst.net.now) (sym (c.deref.ensures.value ∙ c.in_ok-others.ensures))
    (part_instance (is_others c.args.bidder.now) c.args.inst.net.now c.args.inst.bids.now c.args.inst.few c.args.inst.paths)

pub interval-requires-clause-ordered : goal.interval-requires-clause-ordered
interval-requires-clause-ordered g c =
    let inst = c.args.inst in
    let net = inst.net.now in
    let Keeps = g.F.RowFamily.KeepsRule c.args.rows.now net in
    let encloses =
    others_enclosed net Keeps inst.bids.now inst.few inst.paths (g.P.Planner.Finds c.args.planner.now c.args.rows.now net)
    (λ list found. g.met.P.Planner.encloses c.args.planner.now c.args.rows.now net list found inst.proper) c.args.bidder.now c.deref.result.now c.in_ok-others.others.items c.in_ok-found.found c.deref.ensures.value c.in_ok-others.ensures
    c.in_ok-found.ensures.found in
    earned_within net Keeps (others_bids c.args.bidder.now inst.bids.now) c.in_ok-found.found.revenue c.in_ok-found.found.bound encloses.earned encloses.bounded

pub interval-requires-clause-part : goal.interval-requires-clause-part
interval-requires-clause-part g c =
    let inst = c.args.inst in
    let net = inst.net.now in
    let Keeps = g.F.RowFamily.KeepsRule c.args.rows.now net in
    let encloses =
    others_enclosed net Keeps inst.bids.now inst.few inst.paths (g.P.Planner.Finds c.args.planner.now c.args.rows.now net)
    (λ list found. g.met.P.Planner.encloses c.args.planner.now c.args.rows.now net list found inst.proper) c.args.bidder.now c.deref.result.now c.in_ok-others.others.items c.in_ok-found.found c.deref.ensures.value c.in_ok-others.ensures
    c.in_ok-found.ensures.found in
    let part =
    part_earned net inst.proper (g.F.RowFamily.rows_of c.args.rows.now net) Keeps (λ entries. g.met.F.RowFamily.rule_by_rows c.args.rows.now net entries inst.proper)
    (is_others c.args.bidder.now) inst.bids.now c.args.choice.now c.requires in
    subst (λ (b : List ℕ). others_worth net b inst.bids.now c.args.choice.now ≤ℤ c.in_ok-found.found.bound) (sym c.in_ok-bidder.ensures)
    (earned_within net Keeps (others_bids c.args.bidder.now inst.bids.now) (others_worth net c.args.bidder.now inst.bids.now c.args.choice.now) c.in_ok-found.found.bound part
    encloses.bounded)

pub interval-requires-clause-bound : goal.interval-requires-clause-bound
interval-requires-clause-bound g c =
    let inst = c.args.inst in
    let net = inst.net.now in
    let Keeps = g.F.RowFamily.KeepsRule c.args.rows.now net in
    enclosed_few net Keeps inst.bids.now c.args.bidder.now c.in_ok-found.found inst.few
    (others_enclosed net Keeps inst.bids.now inst.few inst.paths (g.P.Planner.Finds c.args.planner.now c.args.rows.now net)
    (λ list found. g.met.P.Planner.encloses c.args.planner.now c.args.rows.now net list found inst.proper) c.args.bidder.now c.deref.result.now c.in_ok-others.others.items c.in_ok-found.found c.deref.ensures.value c.in_ok-others.ensures
    c.in_ok-found.ensures.found)

pub returns-clause-payment : goal.returns-clause-payment
returns-clause-payment g c =
    let inst = c.args.inst in
    let net = inst.net.now in
    let Keeps = g.F.RowFamily.KeepsRule c.args.rows.now net in
    let encloses =
    others_enclosed net Keeps inst.bids.now inst.few inst.paths (g.P.Planner.Finds c.args.planner.now c.args.rows.now net)
    (λ list found. g.met.P.Planner.encloses c.args.planner.now c.args.rows.now net list found inst.proper) c.args.bidder.now c.deref.result.now c.in_ok-others.others.items c.in_ok-found.found c.deref.ensures.value c.in_ok-others.ensures
    c.in_ok-found.ensures.found in
    let part =
    part_earned net inst.proper (g.F.RowFamily.rows_of c.args.rows.now net) Keeps (λ entries. g.met.F.RowFamily.rule_by_rows c.args.rows.now net entries inst.proper)
    (is_others c.args.bidder.now) inst.bids.now c.args.choice.now c.requires in
    let same = sym (c.interval.ensures.bidder ∙ c.in_ok-bidder.ensures) in
    holds net Keeps inst.bids.now c.args.choice.now c.in_ok-found.found c.interval.result
    (subst (λ (b : List ℕ). IsEarned net Keeps (others_bids b inst.bids.now) (others_worth net b inst.bids.now c.args.choice.now)) same part)
    (subst (λ (b : List ℕ). Encloses net Keeps (others_bids b inst.bids.now) c.in_ok-found.found) same encloses) c.interval.ensures.interval
