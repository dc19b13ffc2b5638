-- What became of the actions so far.
use Rattle.std.proofs.Common.{◌≡◌, ◌++◌, drop}
use Rattle.std.specs.List.{zip}
use Rattle.optra_play.proofs.house_rounds.told.Given as goal

abbrev pub invariant-rows : goal.invariant-rows
invariant-rows l = l.told.items ++ zip (drop l.i l.rows) (drop l.i l.outcomes) ≡ zip l.rows l.outcomes
