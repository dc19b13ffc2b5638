use Rattle.std.proofs.Common.{◌≡◌}
use Rattle.optra_network.specs.Headways.{type_id, least_of, headway_before}
use Rattle.optra_network.proofs.building.Builder.least.Given as goal

abbrev pub invariant-loop-other : goal.invariant-loop-other
invariant-loop-other l = l.least ≡ least_of (λ n. headway_before l.self l.track l.kind (type_id n)) l.other
