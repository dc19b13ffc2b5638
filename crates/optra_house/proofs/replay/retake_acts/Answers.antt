use Rattle.std.proofs.Common.{◌≡◌, ◌∷◌, subst, All}
use Rattle.std.proofs.lemmas.List.Elements.{All-tail}
use Rattle.std.specs.Vec.Iter.{into_iter_items}
use Rattle.optra_auction.specs.Machine.{HasAmount, after_all}
use Rattle.optra_auction.specs.declared.Act.{Act}
use Rattle.optra_auction.proofs.ActLemmas.{taken_after}
use Rattle.optra_house.proofs.replay.retake_acts.Goals as goal

pub acts-preserved : goal.acts-preserved
acts-preserved c =
    let left = into_iter_items c.acts.act-iterator in
    let rest = into_iter_items c.next.new.self in
    let x : Act = c.in-Some.act in
    let split : left ≡ x ∷ rest = c.in-Some.ensures.steps.0 in
    record {
      after = taken_after x left rest c.acts.auction c.take_act.new.auction (after_all c.args.auction.now c.args.acts.items) split c.take_act.ensures.after c.acts.invariant.after;
      amounts = All-tail HasAmount x rest (subst (All HasAmount) split c.acts.invariant.amounts);
    }
