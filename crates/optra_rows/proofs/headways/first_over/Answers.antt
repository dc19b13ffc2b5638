use Rattle.std.proofs.Common.{◌+◌, ℕ, arith, rules, nat_le}
use Rattle.std.proofs.lemmas.List.Sorted.{IsPartitionPoint-from_clause, IsPartitionedBy-leb}
use Rattle.optra_network.specs.declared.Partner.{Partner}
use Rattle.optra_rows.proofs.headways.first_over.Goals as goal

pub returns : goal.returns
returns c =
    let minute : Partner → ℕ = λ partner. c.args.time + partner.shift in
    let point =
    IsPartitionPoint-from_clause (λ partner. nat_le (minute partner) 2999) c.args.partners.now c.partition_point.result c.partition_point.ensures.partitioned
    (IsPartitionedBy-leb minute c.args.partners.now 2999 (λ i j d le l. let up = c.requires.order i j d le l in omega arith)) (λ a r q k. search rules) in
    record {
      within = c.partition_point.ensures.bound;
      before = λ k d l. point.0 k d (let b = c.partition_point.ensures.bound in omega arith) l;
      after = λ k d l w. point.1 k d l w;
    }
