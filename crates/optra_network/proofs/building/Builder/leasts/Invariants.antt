use Rattle.std.proofs.Common.{◌≡◌, map}
use Rattle.std.specs.List.{range_with_len}
use Rattle.optra_network.specs.Tables.{least_at}
use Rattle.optra_network.proofs.building.Builder.leasts.Given as goal

abbrev pub invariant-loop-place : goal.invariant-loop-place
invariant-loop-place l = l.leasts.items ≡ map (least_at l.self) (range_with_len 0 l.place)
