-- The stays so far are counted.
use Rattle.std.specs.Prelude.{take}
use Rattle.optra_audit.specs.Stays.{AreCounts}
use Rattle.optra_audit.proofs.minute_counts.counts_of.Given as goal

abbrev pub invariant-stays : goal.invariant-stays
invariant-stays l = AreCounts (take l.stay-index l.stays) l.counts.items
