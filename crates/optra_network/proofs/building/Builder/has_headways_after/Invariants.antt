use Rattle.std.proofs.Common.{◌≡◌, ℕ, ◌<◌, true}
use Rattle.optra_network.specs.Tables.{has_headway}
use Rattle.optra_network.proofs.building.Builder.has_headways_after.Given as goal

abbrev pub invariant-loop-second : goal.invariant-loop-second
invariant-loop-second l = (b : ℕ) → b < l.second → has_headway l.self l.track.0 l.first.0 b ≡ true
