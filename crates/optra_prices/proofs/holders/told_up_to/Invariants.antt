use Rattle.std.proofs.Common.{◌-◌, length}
use Rattle.optra_prices.specs.Holders.{AreToldTo}
use Rattle.optra_prices.proofs.holders.told_up_to.Given as goal

abbrev pub invariant-loop-first : goal.invariant-loop-first
invariant-loop-first l = AreToldTo l.first l.fallen

abbrev pub decreases-loop-first : goal.decreases-loop-first
decreases-loop-first l = length l.fallen - l.first
