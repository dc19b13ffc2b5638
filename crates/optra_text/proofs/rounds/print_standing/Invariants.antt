-- What is printed so far, with the bids that are left, is the whole.
use Rattle.std.proofs.Common.{◌≡◌, ◌++◌, drop}
use Rattle.optra_records.specs.Texts.{records_text}
use Rattle.optra_text.specs.RoundTexts.{standing_records}
use Rattle.optra_text.proofs.rounds.print_standing.Given as goal

abbrev pub invariant-bids : goal.invariant-bids
invariant-bids l =
    l.printer ++ records_text (standing_records (drop l.i l.specs) (drop l.i l.bids) (drop l.i l.walks)) ≡ l.fn.printer ++ records_text (standing_records l.specs l.bids l.walks)
