-- What is printed so far, with the records of the bids that are left, is the whole.
use Rattle.std.proofs.Common.{◌≡◌, ◌+◌, ◌++◌, drop}
use Rattle.optra_records.specs.Texts.{records_text}
use Rattle.optra_text.specs.EvidenceTexts.{bid_records}
use Rattle.optra_text.proofs.evidence_texts.print_bids.Given as goal

abbrev pub invariant-bids : goal.invariant-bids
invariant-bids l =
    l.printer ++ records_text (bid_records l.net l.fn.view.revenue (l.i + 1) (drop l.i l.bids) (drop l.i l.walks) (drop l.i l.figures))
    ≡ l.fn.printer ++ records_text (bid_records l.net l.fn.view.revenue 1 l.bids l.walks l.figures)
