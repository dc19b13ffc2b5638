use Rattle.std.proofs.Common.{◌≡◌, ◌+◌, ◌-◌, length, take}
use Rattle.optra_cross.specs.Places.{total}
use Rattle.optra_cross.proofs.SearchLemmas.{IsCut}
use Rattle.optra_cross.proofs.places.place_at.Given as goal

abbrev pub invariant-tracks : goal.invariant-tracks
invariant-tracks l = record {
  cut : IsCut l.crossers l.start;
  left : total l.time (take l.start l.crossers) + l.left ≡ l.k;
}

abbrev pub decreases-tracks : goal.decreases-tracks
decreases-tracks l = length l.crossers - l.start
