use Rattle.std.proofs.Common.{◌≡◌, All}
use Rattle.std.specs.Vec.Iter.{into_iter_items}
use Rattle.optra_auction.specs.Machine.{HasAmount, after_all}
use Rattle.optra_house.proofs.replay.retake_acts.Given as goal

abbrev pub invariant-acts : goal.invariant-acts
invariant-acts l = record {
  after : after_all l.auction (into_iter_items l.act-iterator) ≡ after_all l.fn.auction l.fn.acts.items;
  amounts : All HasAmount (into_iter_items l.act-iterator);
}
