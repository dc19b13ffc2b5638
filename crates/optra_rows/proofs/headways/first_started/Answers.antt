use Rattle.std.proofs.Common.{◌+◌, ℕ, sym, arith, rules, nat_lt}
use Rattle.std.proofs.lemmas.Bool.{le-leb, lt-leb, ltb-true, ltb-false}
use Rattle.std.proofs.lemmas.List.Sums.{position_or_len_is}
use Rattle.std.proofs.lemmas.List.Sorted.{IsPartitionPoint-from_clause, IsPartitionedBy-ltb}
use Rattle.optra_network.specs.Headways.{type_id}
use Rattle.optra_network.specs.declared.Partner.{Partner}
use Rattle.optra_rows.specs.Headways.{is_started}
use Rattle.optra_rows.proofs.headways.first_started.Goals as goal

any_partner : Partner
any_partner = record { shift = 0; kind = type_id 0 }

pub returns-then-time-ge120-clause-place : goal.returns-then-time-ge120-clause-place
returns-then-time-ge120-clause-place c =
    sym (position_or_len_is (is_started c.args.time) c.args.partners.now 0 any_partner (omega arith) (λ k l. absurd (omega arith)) (λ _. le-leb 120 _ (let late = c.if-time-ge120.true in omega arith)))

pub returns-clause-place : goal.returns-clause-place
returns-clause-place c =
    let minute : Partner → ℕ = λ partner. c.args.time + partner.shift in
    let point =
    IsPartitionPoint-from_clause (λ partner. nat_lt (minute partner) 120) c.args.partners.now c.partition_point.result c.partition_point.ensures.partitioned
    (IsPartitionedBy-ltb minute c.args.partners.now 120 (λ i j d le l. let up = c.requires.order i j d le l in omega arith)) (λ a r q k. search rules) in
    sym (position_or_len_is (is_started c.args.time) c.args.partners.now c.partition_point.result any_partner c.partition_point.ensures.bound
    (λ k l. lt-leb 120 _ (let early = ltb-true _ _ (point.0 k any_partner (omega arith) l) in omega arith))
    (λ l. le-leb 120 _ (let late = ltb-false _ _ (point.1 c.partition_point.result any_partner (omega arith) l) in omega arith)))

pub returns-then-time-ge120-clause-parts : goal.returns-then-time-ge120-clause-parts
returns-then-time-ge120-clause-parts c = record {
  before = λ k d l. absurd (omega arith);
  after = λ k d l w. le-leb 120 _ (let late = c.if-time-ge120.true in omega arith);
}

pub returns-clause-parts : goal.returns-clause-parts
returns-clause-parts c =
    let minute : Partner → ℕ = λ partner. c.args.time + partner.shift in
    let point =
    IsPartitionPoint-from_clause (λ partner. nat_lt (minute partner) 120) c.args.partners.now c.partition_point.result c.partition_point.ensures.partitioned
    (IsPartitionedBy-ltb minute c.args.partners.now 120 (λ i j d le l. let up = c.requires.order i j d le l in omega arith)) (λ a r q k. search rules) in
    record {
      before = λ k d l. lt-leb 120 _ (let early = ltb-true _ _ (point.0 k d (let b = c.partition_point.ensures.bound in omega arith) l) in omega arith);
      after = λ k d l w. le-leb 120 _ (let late = ltb-false _ _ (point.1 k d l w) in omega arith);
    }
