use Rattle.std.proofs.Common.{refl, sym}
use Rattle.std.proofs.lemmas.Result.{on_ok_weaker}
use Rattle.optra_node.specs.declared.Decision.{Decision}
use Rattle.optra_open.specs.Keyed.{bucket_of}
use Rattle.optra_open.proofs.decision_index.DecisionIndex.put.Goals as goal

pub returns : goal.returns
returns c =
    on_ok_weaker c.add_at-2.result
    (λ add bids node is. record {
      own = c.in_ok-add_at.ensures (λ (d : Decision). d.bid) bids node refl is.own;
      yes = c.in_ok-put_yes.ensures bids node is.yes;
      buckets = add (λ (d : Decision). bucket_of d.bid d.leg) 4096 node (sym c.bucket_of-bucket.ensures.bucket) is.buckets;
    }) c.add_at-2.ensures
