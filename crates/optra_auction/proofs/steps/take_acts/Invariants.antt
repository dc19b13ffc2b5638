-- What is still to come of the actions that are left.
use Rattle.std.proofs.Common.{◌≡◌, ◌++◌, All}
use Rattle.std.specs.Vec.Iter.{into_iter_items}
use Rattle.optra_auction.specs.Machine.{HasAmount, after_all, refusals_of}
use Rattle.optra_auction.proofs.steps.take_acts.Given as goal

abbrev pub invariant-acts : goal.invariant-acts
invariant-acts l = record {
  refusals : l.refusals.items ++ refusals_of l.auction (into_iter_items l.act-iterator) ≡ refusals_of l.fn.auction l.fn.acts.items;
  after : after_all l.auction (into_iter_items l.act-iterator) ≡ after_all l.fn.auction l.fn.acts.items;
  amounts : All HasAmount (into_iter_items l.act-iterator);
}
