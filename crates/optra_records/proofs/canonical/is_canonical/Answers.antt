-- A text is canonical where it has no mark, is UTF-8, and goes on as a text of records does.
use Rattle.std.proofs.Common.{sym, refl}
use Rattle.optra_records.proofs.PlaceLemmas.{canonical_is}
use Rattle.optra_records.proofs.canonical.is_canonical.Goals as goal

pub returns-then-begins_with_mark : goal.returns-then-begins_with_mark
returns-then-begins_with_mark c = rw (canonical_is c.args.bytes.now, sym c.begins_with_mark.ensures, c.if-begins_with_mark.true) refl

pub returns-then-is_text : goal.returns-then-is_text
returns-then-is_text c =
    rw (canonical_is c.args.bytes.now, sym c.begins_with_mark.ensures, c.if-begins_with_mark.false, sym c.is_text.ensures, c.if-is_text.true) (c.are_written.ensures)

pub returns-else-is_text : goal.returns-else-is_text
returns-else-is_text c =
    rw (canonical_is c.args.bytes.now, sym c.begins_with_mark.ensures, c.if-begins_with_mark.false, sym c.is_text.ensures, c.if-is_text.false) refl
