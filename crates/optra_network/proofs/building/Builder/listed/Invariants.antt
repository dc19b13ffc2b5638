use Rattle.std.proofs.Common.{length, map, take}
use Rattle.optra_network.specs.Crossers.{crossers_in}
use Rattle.optra_network.specs.Tables.{HoldsPairs}
use Rattle.optra_network.proofs.building.Builder.listed.Given as goal

abbrev pub invariant-loop-i : goal.invariant-loop-i
invariant-loop-i l = HoldsPairs (crossers_in l.self (take l.i l.self.crossings)) (length l.self.tracks) (map (λ list. list.items) l.lists.items)
