-- What is printed so far, with what is left, is the whole.
use Rattle.std.proofs.Common.{◌≡◌, ◌++◌, map, drop}
use Rattle.optra_records.specs.Texts.{records_text}
use Rattle.optra_text.specs.RoundTexts.{award_record}
use Rattle.optra_text.specs.RoundViews.{award_of}
use Rattle.optra_text.proofs.rounds.print_awards.Given as goal

abbrev pub invariant-awards : goal.invariant-awards
invariant-awards l =
    l.printer ++ records_text (map award_record (map award_of (drop l.award-index l.awards))) ≡ l.fn.printer ++ records_text (map award_record (map award_of l.awards))
