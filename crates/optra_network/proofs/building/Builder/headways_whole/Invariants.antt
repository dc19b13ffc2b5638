use Rattle.std.proofs.Common.{◌≡◌, ℕ, ◌<◌, true, length}
use Rattle.optra_network.specs.Tables.{has_headway}
use Rattle.optra_network.proofs.building.Builder.headways_whole.Given as goal

abbrev pub invariant-loop-track : goal.invariant-loop-track
invariant-loop-track l = (t a b : ℕ) → t < l.track → a < length l.self.types → b < length l.self.types → has_headway l.self t a b ≡ true
