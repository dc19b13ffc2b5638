-- What is still to come of the actions that are left.
use Rattle.std.proofs.Common.{◌≡◌, ◌++◌, All}
use Rattle.std.specs.Vec.Iter.{into_iter_items}
use Rattle.optra_auction.specs.Machine.{HasAmount}
use Rattle.optra_rounds.specs.Rounds.{acts_of, after_acts, other_acts, outcomes}
use Rattle.optra_rounds.proofs.actions.take_actions.Given as goal

abbrev pub invariant-actions : goal.invariant-actions
invariant-actions l = record {
  outcomes : l.outcomes.items ++ outcomes l.auction (acts_of l.round (into_iter_items l.action-iterator)) ≡ outcomes l.initial.auction (acts_of l.round l.fn.actions.items);
  later : l.later.items ++ other_acts l.round (into_iter_items l.action-iterator) ≡ other_acts l.round l.fn.actions.items;
  after : after_acts l.auction (acts_of l.round (into_iter_items l.action-iterator)) ≡ after_acts l.initial.auction (acts_of l.round l.fn.actions.items);
  amounts : All (λ a. HasAmount a.act) (into_iter_items l.action-iterator);
}
