-- What is printed so far, with the trains of the bids that are left, is the whole.
use Rattle.std.proofs.Common.{◌≡◌, ◌+◌, ◌++◌, drop}
use Rattle.optra_records.specs.Texts.{records_text}
use Rattle.optra_text.specs.CompressedTexts.{moved_records}
use Rattle.optra_text.proofs.compressed_times.print_moved.Given as goal

abbrev pub invariant-bids : goal.invariant-bids
invariant-bids l =
    l.printer ++ records_text (moved_records l.net (l.i + 1) (drop l.i l.bids) (drop l.i l.walks)) ≡ l.fn.printer ++ records_text (moved_records l.net 1 l.bids l.walks)
