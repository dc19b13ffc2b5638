-- What is printed so far, with what is left, is the whole.
use Rattle.std.proofs.Common.{◌≡◌, ◌++◌, map, drop}
use Rattle.optra_records.specs.Texts.{records_text}
use Rattle.optra_text.specs.AuditTexts.{clash_record}
use Rattle.optra_text.proofs.audits.print_clashes.Given as goal

abbrev pub invariant-clashes : goal.invariant-clashes
invariant-clashes l = l.printer ++ records_text (map clash_record (drop l.clash-index l.clashes)) ≡ l.fn.printer ++ records_text (map clash_record l.clashes)
