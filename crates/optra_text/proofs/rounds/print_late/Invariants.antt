-- What is printed so far, with what is left, is the whole.
use Rattle.std.proofs.Common.{◌≡◌, ◌++◌, map, drop}
use Rattle.optra_records.specs.Texts.{records_text}
use Rattle.optra_text.specs.RoundTexts.{late_record}
use Rattle.optra_text.proofs.rounds.print_late.Given as goal

abbrev pub invariant-rows : goal.invariant-rows
invariant-rows l =
    l.printer ++ records_text (map late_record (drop l.row-index l.rows)) ≡ l.fn.printer ++ records_text (map late_record l.rows)
