use Rattle.std.proofs.Common.{◌-◌}
use Rattle.optra_cross.proofs.SearchLemmas.{IsBetween}
use Rattle.optra_cross.proofs.places.search.Given as goal

abbrev pub invariant-halves : goal.invariant-halves
invariant-halves l = IsBetween l.time l.fn.track.0 l.k l.group l.low l.high

abbrev pub decreases-halves : goal.decreases-halves
decreases-halves l = l.high - l.low
