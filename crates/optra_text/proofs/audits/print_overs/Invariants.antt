-- What is printed so far, with what is left, is the whole.
use Rattle.std.proofs.Common.{◌≡◌, ◌++◌, map, drop}
use Rattle.optra_records.specs.Texts.{records_text}
use Rattle.optra_text.specs.AuditTexts.{over_record}
use Rattle.optra_text.proofs.audits.print_overs.Given as goal

abbrev pub invariant-overs : goal.invariant-overs
invariant-overs l = l.printer ++ records_text (map (over_record l.net) (drop l.over-index l.overs)) ≡ l.fn.printer ++ records_text (map (over_record l.net) l.overs)
