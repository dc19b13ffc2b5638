-- What is printed so far, with what is left, is the whole.
use Rattle.std.proofs.Common.{◌≡◌, ◌++◌, map, drop}
use Rattle.optra_records.specs.Texts.{records_text}
use Rattle.optra_text.specs.RoundTexts.{outcome_record}
use Rattle.optra_text.proofs.rounds.print_outcomes.Given as goal

abbrev pub invariant-outcomes : goal.invariant-outcomes
invariant-outcomes l =
    l.printer ++ records_text (map outcome_record (drop l.outcome-index l.outcomes)) ≡ l.fn.printer ++ records_text (map outcome_record l.outcomes)
