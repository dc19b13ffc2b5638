-- There is one record, or a fault.
use Rattle.std.proofs.lemmas.Result.{err_from_is_err_and}
use Rattle.csv.specs.Records.{fields_of}
use Rattle.optra_tables.proofs.RulesLemmas.{first_fails, none_only, one_only, second_fails}
use Rattle.optra_tables.proofs.rules.only_rules.Goals as goal

pub returns-then-not-branch : goal.returns-then-not-branch
returns-then-not-branch c = rw c.fails.ensures (none_only c.args.records.now (rw c.if-not-branch.true at c.in_ok-next.ensures.read))

pub returns-in_err-rules : goal.returns-in_err-rules
returns-in_err-rules c =
    let p = err_from_is_err_and c.from_residual-in_err-rules.result c.from_residual-in_err-rules.ensures.1 in
    rw (p.1, p.2) (first_fails c.args.records.now c.next.new.self (fields_of c.next.new.row) c.in_err-rules.field-0.0
    (rw c.if-not-branch.false at c.in_ok-next.ensures.read) c.in_err-rules.ensures)

pub returns-then-branch : goal.returns-then-branch
returns-then-branch c =
    rw c.fails-then-branch.ensures (
    second_fails c.args.records.now c.next.new.self c.next-2.new.self (fields_of c.next.new.row) (fields_of c.next-2.new.row) c.in_ok-rules.rules
    (rw c.if-not-branch.false at c.in_ok-next.ensures.read) c.in_ok-rules.ensures (rw c.if-branch.true at c.in_ok-next-2.ensures.read)
    )

pub returns : goal.returns
returns c =
    one_only c.args.records.now c.next.new.self (fields_of c.next.new.row) c.in_ok-rules.rules
    (rw c.if-not-branch.false at c.in_ok-next.ensures.read) c.in_ok-rules.ensures (rw c.if-branch.false at c.in_ok-next-2.ensures.read)
