use Rattle.std.proofs.Common.{◌≡◌, map}
use Rattle.std.specs.List.{range_with_len}
use Rattle.optra_network.specs.Partners.{partners_at}
use Rattle.optra_network.proofs.building.Builder.partners.Given as goal

abbrev pub invariant-loop-place : goal.invariant-loop-place
invariant-loop-place l = map (λ list. list.items) l.partners.items ≡ map (partners_at l.self) (range_with_len 0 l.place)
