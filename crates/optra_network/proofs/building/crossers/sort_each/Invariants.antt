use Rattle.std.proofs.Common.{map}
use Rattle.optra_network.proofs.CrosserLemmas.{IsSortedTo}
use Rattle.optra_network.proofs.building.crossers.sort_each.Given as goal

abbrev pub invariant-loop-place : goal.invariant-loop-place
invariant-loop-place l = IsSortedTo (map (λ list. list.items) l.fn.lists.items) (map (λ list. list.items) l.lists.items) l.place
