use Rattle.optra_node.specs.declared.Decision.{Decision}
use Rattle.optra_open.specs.Keyed.{bucket_of}
use Rattle.optra_open.proofs.IndexLemmas.{keyed_none}
use Rattle.optra_open.proofs.decision_index.DecisionIndex.new.Goals as goal

pub returns : goal.returns
returns c = record {
  own = keyed_none (λ (d : Decision). d.bid) c.args.bids _ c.in_ok-own.ensures;
  yes = keyed_none (λ (d : Decision). d.bid) c.args.bids _ c.in_ok-yes.ensures;
  buckets = keyed_none (λ (d : Decision). bucket_of d.bid d.leg) 4096 _ c.in_ok-buckets.ensures;
}
