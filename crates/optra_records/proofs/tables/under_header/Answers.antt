-- The first record is the header, or it is the fault.
use Rattle.std.proofs.Common.{sym, ◌∙◌, map}
use Rattle.csv.specs.Records.{fields_of}
use Rattle.optra_records.proofs.TableLemmas.{header_is, header_not, no_header}
use Rattle.optra_records.proofs.tables.under_header.Goals as goal

pub returns-then-not-branch : goal.returns-then-not-branch
returns-then-not-branch g c = no_header c.args.missing (map (λ name. name.now) c.args.header.now) c.args.records.now (rw c.if-not-branch.true at c.in_ok-next.ensures.read)

pub returns-then-not-is_header : goal.returns-then-not-is_header
returns-then-not-is_header g c =
    header_not c.args.missing (map (λ name. name.now) c.args.header.now) c.args.records.now c.next.new.self (fields_of c.next.new.row)
    (rw c.if-not-branch.false at c.in_ok-next.ensures.read) (sym c.is_header.ensures ∙ c.if-not-is_header.true)

pub returns : goal.returns
returns g c =
    header_is c.args.missing (map (λ name. name.now) c.args.header.now) c.args.records.now c.next.new.self (fields_of c.next.new.row)
    (rw c.if-not-branch.false at c.in_ok-next.ensures.read) (sym c.is_header.ensures ∙ c.if-not-is_header.false)
