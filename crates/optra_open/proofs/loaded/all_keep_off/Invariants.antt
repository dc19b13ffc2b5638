-- The legs so far keep off the rows.
use Rattle.std.proofs.Common.{take}
use Rattle.std.specs.Prelude.{All}
use Rattle.optra_open.specs.Loaded.{KeepsOff}
use Rattle.optra_open.proofs.loaded.all_keep_off.Given as goal

abbrev pub invariant-legs : goal.invariant-legs
invariant-legs g l = All (KeepsOff g.F.Row.Ord.cmp (g.F.RowFamily.rows_of l.rows l.net) l.kind l.loaded) (take l.leg-index l.legs)
