use Rattle.std.proofs.Common.{map}
use Rattle.optra_network.specs.Tables.{HoldsOut}
use Rattle.optra_network.proofs.dense.out_lists.Given as goal

abbrev pub invariant-loop-place : goal.invariant-loop-place
invariant-loop-place l = HoldsOut l.tracks l.place l.stations (map (λ v. v.items) l.lists.items)
