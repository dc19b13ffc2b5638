use Rattle.std.proofs.Common.{refl, sym}
use Rattle.optra_node.specs.declared.Decision.{Decision}
use Rattle.optra_open.specs.Keyed.{bucket_of}
use Rattle.optra_open.proofs.decision_index.DecisionIndex.take_off.Goals as goal

pub returns : goal.returns
returns c bids node is = record {
  own = c.drop_at.ensures (λ (d : Decision). d.bid) bids node refl is.own;
  yes = c.take_yes.ensures bids node is.yes;
  buckets = c.drop_at-2.ensures (λ (d : Decision). bucket_of d.bid d.leg) 4096 node (sym c.bucket_of-bucket.ensures.bucket) is.buckets;
}
