use Rattle.std.proofs.Common.{◌≡◌, take}
use Rattle.optra_prices.specs.Standings.{groups_on}
use Rattle.optra_prices.proofs.settling.list_groups.Given as goal

abbrev pub invariant-loop-k : goal.invariant-loop-k
invariant-loop-k l = l.groups.items ≡ groups_on l.arcs (take l.k-index l.path)
