-- The earliest and the latest minute so far, with the walks that are left, are those of all.
use Rattle.std.proofs.Common.{◌≡◌, drop}
use Rattle.optra_text.specs.CompressedTexts.{earliest, latest}
use Rattle.optra_text.proofs.compressed_times.minutes_taken.Given as goal

abbrev pub invariant-bids : goal.invariant-bids
invariant-bids l =
    (earliest l.first (drop l.i l.walks) ≡ earliest 2880 l.walks)
    × (latest l.net l.last (drop l.i l.bids) (drop l.i l.walks) ≡ latest l.net 0 l.bids l.walks)
