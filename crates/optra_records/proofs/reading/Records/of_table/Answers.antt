-- A text with a second mark has no records.
use Rattle.std.proofs.Common.{◌∙◌, ap, sym}
use Rattle.optra_records.specs.Reading.{has_mark}
use Rattle.optra_records.proofs.ReadLemmas.{marked_twice, no_records}
use Rattle.optra_records.proofs.reading.Records.of_table.Goals as goal

pub returns-then-begins_with_mark : goal.returns-then-begins_with_mark
returns-then-begins_with_mark c =
    let marked = ap has_mark (sym c.skip_mark-text.ensures) ∙ sym c.begins_with_mark.ensures ∙ c.if-begins_with_mark.true in
    c.of_text.ensures ∙ no_records ∙ sym (marked_twice c.args.bytes.now marked)
