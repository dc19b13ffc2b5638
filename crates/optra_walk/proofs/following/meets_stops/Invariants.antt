use Rattle.std.proofs.Common.{drop, filter}
use Rattle.optra_walk.specs.Legs.{is_halt}
use Rattle.optra_walk.specs.Walks.{MeetsStop}
use Rattle.optra_walk.proofs.StopLemmas.{LeftDecides}
use Rattle.optra_walk.proofs.following.meets_stops.Given as goal

abbrev pub invariant-loop-leg : goal.invariant-loop-leg
invariant-loop-leg l = LeftDecides (MeetsStop l.net l.kind) (λ leg. is_halt leg.action) l.legs l.stops (filter (λ leg. is_halt leg.action) (drop l.leg-index l.legs)) l.rest
