use Rattle.std.proofs.Common.{◌≡◌, ◌++◌, map, take, drop}
use Rattle.std.specs.Prelude.{slice_index}
use Rattle.optra_prices.proofs.touches.renumber_rows.Given as goal

abbrev pub invariant-loop-k : goal.invariant-loop-k
invariant-loop-k l = l.rows ≡ map (slice_index l.numbers) (take l.k l.initial.rows) ++ drop l.k l.initial.rows
