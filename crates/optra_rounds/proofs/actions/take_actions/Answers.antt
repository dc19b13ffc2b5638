-- An action is taken or kept.
use Rattle.std.proofs.Common.{◌≡◌, ◌++◌, ◌∙◌, List, ◌∷◌, sym, ap, subst, All}
use Rattle.std.proofs.lemmas.List.Elements.{All-tail}
use Rattle.std.specs.Vec.Iter.{into_iter_items}
use Rattle.optra_auction.specs.Machine.{HasAmount}
use Rattle.optra_tables.specs.declared.TimedAct.{TimedAct}
use Rattle.optra_rounds.specs.Rounds.{acts_of, after_acts, other_acts, outcomes}
use Rattle.optra_rounds.proofs.TakeLemmas.{taken-outcomes, taken-after, kept-later, acts-other, others-same}
use Rattle.optra_rounds.proofs.actions.take_actions.Goals as goal

pub actions-preserved-in-Continue-1 : goal.actions-preserved-in-Continue-1
actions-preserved-in-Continue-1 c =
    let round = c.round-round.result in
    let left = into_iter_items c.actions.action-iterator in
    let rest = into_iter_items c.next.new.self in
    let x : TimedAct = c.in-Some.action in
    let split : left ≡ x ∷ rest = c.in-Some.ensures.steps.0 in
    let same : x.round ≡ round = c.if-action-round.true in
    record {
      outcomes = taken-outcomes round x left rest c.actions.auction c.take_act-refusal.new.auction c.take_act-refusal.result c.actions.outcomes.items c.push.new.self.items
          (outcomes c.args.auction.now (acts_of round c.args.actions.items)) split same c.take_act-refusal.ensures.refusal c.take_act-refusal.ensures.after c.in_ok-push.ensures.items c.actions.invariant.outcomes;
      later = ap (λ (l : List TimedAct). c.actions.later.items ++ l) (sym (others-same round x rest same) ∙ ap (other_acts round) (sym split)) ∙ c.actions.invariant.later;
      after = taken-after round x left rest c.actions.auction c.take_act-refusal.new.auction (after_acts c.args.auction.now (acts_of round c.args.actions.items)) split same
          c.take_act-refusal.ensures.after c.actions.invariant.after;
      amounts = All-tail (λ (a : TimedAct). HasAmount a.act) x rest (subst (All (λ (a : TimedAct). HasAmount a.act)) split c.actions.invariant.amounts);
    }

pub actions-preserved : goal.actions-preserved
actions-preserved c =
    let round = c.round-round.result in
    let left = into_iter_items c.actions.action-iterator in
    let rest = into_iter_items c.next.new.self in
    let x : TimedAct = c.in-Some.action in
    let split : left ≡ x ∷ rest = c.in-Some.ensures.steps.0 in
    let others : acts_of round rest ≡ acts_of round left = sym (acts-other round x rest c.if-action-round.false) ∙ ap (acts_of round) (sym split) in
    record {
      outcomes = ap (λ (l : List TimedAct). c.actions.outcomes.items ++ outcomes c.actions.auction l) others ∙ c.actions.invariant.outcomes;
      later = kept-later round x left rest c.actions.later.items c.push-else-action-round.new.self.items (other_acts round c.args.actions.items) split c.if-action-round.false c.in_ok-push-2.ensures.items c.actions.invariant.later;
      after = ap (after_acts c.actions.auction) others ∙ c.actions.invariant.after;
      amounts = All-tail (λ (a : TimedAct). HasAmount a.act) x rest (subst (All (λ (a : TimedAct). HasAmount a.act)) split c.actions.invariant.amounts);
    }
