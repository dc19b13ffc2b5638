-- Each byte goes on or ends the record, and so does the end of the text.
use Rattle.std.proofs.Common.{sym, ◌∙◌, arith}
use Rattle.csv.specs.Records.{fields_of}
use Rattle.optra_records.specs.Cuts.{state_of}
use Rattle.optra_records.proofs.CutLemmas.{read_ends, read_goes, read_last, read_none}
use Rattle.optra_records.proofs.cut_records.read_record.Goals as goal

pub returns-then-is_end : goal.returns-then-is_end
returns-then-is_end c =
    read_ends (state_of c.args.start) (state_of c.bytes.state) (fields_of c.bytes.row) c.bytes.field.items c.args.bytes.now c.bytes.i c.bytes.invariant.read
    _ c.bytes-test.true c.step-next.result.0 c.step-next.result.1 c.step-next.ensures.state c.step-next.ensures.action
    (sym c.is_end.ensures ∙ c.if-is_end.true) (fields_of c.act.new.row) c.in_ok-act.ensures.fields

pub bytes-preserved : goal.bytes-preserved
bytes-preserved c = record {
  partial = c.in_ok-act.ensures.partial;
  read =
      read_goes (state_of c.args.start) (state_of c.bytes.state) (fields_of c.bytes.row) c.bytes.field.items c.args.bytes.now c.bytes.i c.bytes.invariant.read
      _ c.bytes-test.true c.step-next.result.0 c.step-next.result.1 c.step-next.ensures.state c.step-next.ensures.action
      (sym c.is_end.ensures ∙ c.if-is_end.false) (fields_of c.act.new.row) c.act.new.field.items c.in_ok-act.ensures.fields c.in_ok-act.ensures.field;
}

pub returns-then-not-ends_at_end : goal.returns-then-not-ends_at_end
returns-then-not-ends_at_end c =
    read_none (state_of c.args.start) (state_of c.bytes.state) (fields_of c.bytes.row) c.bytes.field.items c.args.bytes.now c.bytes.i c.bytes.invariant.read
    (omega arith) (sym c.ends_at_end.ensures ∙ c.if-not-ends_at_end.true)

pub returns : goal.returns
returns c =
    read_last (state_of c.args.start) (state_of c.bytes.state) (fields_of c.bytes.row) c.bytes.field.items c.args.bytes.now c.bytes.i c.bytes.invariant.read
    (omega arith) (sym c.ends_at_end.ensures ∙ c.if-not-ends_at_end.false) (fields_of c.push_field.new.row)
    (let pushed = c.in_ok-push_field.ensures.fields in let same = c.deref.ensures.value in cc)
