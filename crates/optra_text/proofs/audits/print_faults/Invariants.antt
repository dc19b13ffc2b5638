-- What is printed so far, with what is left, is the whole.
use Rattle.std.proofs.Common.{◌≡◌, ◌++◌, map, drop}
use Rattle.optra_records.specs.Texts.{records_text}
use Rattle.optra_text.specs.AuditTexts.{fault_record}
use Rattle.optra_text.proofs.audits.print_faults.Given as goal

abbrev pub invariant-faults : goal.invariant-faults
invariant-faults l = l.printer ++ records_text (map fault_record (drop l.fault-index l.faults)) ≡ l.fn.printer ++ records_text (map fault_record l.faults)
