use Rattle.std.proofs.Common.{◌≡◌, ℕ, ◌<◌, true, length}
use Rattle.optra_network.specs.Tables.{has_headway}
use Rattle.optra_network.proofs.building.Builder.has_headways_on.Given as goal

abbrev pub invariant-loop-first : goal.invariant-loop-first
invariant-loop-first l = (a b : ℕ) → a < l.first → b < length l.self.types → has_headway l.self l.track.0 a b ≡ true
