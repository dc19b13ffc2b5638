use Rattle.std.proofs.Common.{ℕ, ◌<◌, get_or}
use Rattle.optra_prices.specs.Rooms.{HasRoomForAll}
use Rattle.optra_prices.specs.Uses.{arc_touches}
use Rattle.optra_prices.proofs.putting.has_room_for_each.Given as goal

abbrev pub invariant-loop-k : goal.invariant-loop-k
invariant-loop-k l = (i d : ℕ) → i < l.k-index → HasRoomForAll l.room (arc_touches l.groups l.table (get_or l.path i d))
