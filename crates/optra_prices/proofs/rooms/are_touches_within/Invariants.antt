use Rattle.std.proofs.Common.{ℕ, ◌<◌, get_or}
use Rattle.optra_prices.specs.Rooms.{IsNumberWithin}
use Rattle.optra_prices.specs.declared.touch.Touch.{Touch}
use Rattle.optra_prices.proofs.rooms.are_touches_within.Given as goal

abbrev pub invariant-loop-k : goal.invariant-loop-k
invariant-loop-k l = (i : ℕ) (d : Touch) → i < l.k → IsNumberWithin l.room (get_or l.touches i d).row
