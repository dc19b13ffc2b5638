use Rattle.std.proofs.Common.{◌∙◌, arith}
use Rattle.std.proofs.lemmas.List.{take_all}
use Rattle.optra_prices.proofs.NarrowLoadLemmas.{put_next, push_next}
use Rattle.optra_prices.proofs.loads.widen.Goals as goal

pub loop-number-preserved : goal.loop-number-preserved
loop-number-preserved c =
    let narrow = c.args.narrow.now in
    let n = c.loop-number.number in
    let inv = c.loop-number.invariant in
    let t = c.loop-number-test.true in
    let many = c.len-number-end.ensures.uses in
    let same = c.len-number-end.ensures.capacities in
    let pushed = c.in_ok-push.ensures in
    let added = c.in_ok-add.ensures in
    record {
      uses = put_next narrow.uses c.loop-number.wide.uses c.push.new.self.uses c.add.new.self.uses n c.from-in-loop-number.result (omega arith) inv.uses pushed.uses added.uses_are (c.from-in-loop-number.ensures ∙ c.used.ensures);
      capacities = added.capacities ∙ push_next narrow.capacities c.loop-number.wide.capacities c.push.new.self.capacities n c.from.result (omega arith) inv.capacities pushed.capacities (c.from.ensures ∙ c.capacity.ensures);
    }

pub returns-clause-uses : goal.returns-clause-uses
returns-clause-uses c =
    let t = c.loop-number-test.false in
    let many = c.len-number-end.ensures.uses in
    c.loop-number.invariant.uses ∙ take_all c.loop-number.number c.args.narrow.now.uses (omega arith)

pub returns-clause-capacities : goal.returns-clause-capacities
returns-clause-capacities c =
    let t = c.loop-number-test.false in
    let same = c.len-number-end.ensures.capacities in
    c.loop-number.invariant.capacities ∙ take_all c.loop-number.number c.args.narrow.now.capacities (omega arith)
