-- The levels for so many stops.
use Rattle.std.proofs.Common.{map}
use Rattle.optra_rests.specs.Reaches.{AreLevels}
use Rattle.optra_rests.proofs.reach.find_levels.Given as goal

abbrev pub invariant-stops : goal.invariant-stops
invariant-stops l = AreLevels l.net l.fn.bid.path l.back (map (λ level. level.items) l.levels.items) l.passed
