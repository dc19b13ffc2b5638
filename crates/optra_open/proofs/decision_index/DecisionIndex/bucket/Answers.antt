use Rattle.std.proofs.Common.{◌∙◌, ◌<◌, [], map, sym, ap, arith, length, Vec, Global}
use Rattle.std.specs.Prelude.{filter, nat_eq}
use Rattle.std.proofs.lemmas.List.{get_or-map, length-map}
use Rattle.optra_node.specs.declared.Decision.{Decision}
use Rattle.optra_open.specs.Keyed.{bucket_of}
use Rattle.optra_open.proofs.IndexLemmas.{keyed_at}
use Rattle.optra_open.proofs.decision_index.DecisionIndex.bucket.Goals as goal

pub returns : goal.returns
returns c bids node is =
    let items = λ (list : Vec Decision Global). list.items in
    let lists = c.args.self.now.buckets.items in
    let k = c.bucket_of.result in
    let small = c.bucket_of.ensures.small in
    let below : k < length lists = omega (arith, small) in
    c.deref.ensures.value ∙ ap items c.index.ensures ∙ sym (get_or-map items lists k c.index.result.now [] below)
    ∙ keyed_at (λ (d : Decision). bucket_of d.bid d.leg) 4096 node (map items lists) k is.buckets (omega (arith, length-map lists items, below))
    ∙ ap (λ j. filter (λ (d : Decision). nat_eq (bucket_of d.bid d.leg) j) node) c.bucket_of.ensures.bucket
