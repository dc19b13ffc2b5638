use Rattle.std.proofs.Common.{ℕ, ◌<◌, get_or}
use Rattle.std.specs.Prelude.{All}
use Rattle.optra_prices.specs.Rooms.{IsNumberWithin}
use Rattle.optra_prices.specs.Uses.{arc_touches}
use Rattle.optra_prices.proofs.putting.are_arcs_within.Given as goal

abbrev pub invariant-loop-k : goal.invariant-loop-k
invariant-loop-k l = (i d : ℕ) → i < l.k-index → All (λ touch. IsNumberWithin l.room touch.row) (arc_touches l.groups l.table (get_or l.path i d))
