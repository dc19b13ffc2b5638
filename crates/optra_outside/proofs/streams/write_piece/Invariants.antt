-- calls that were interrupted did nothing
use Rattle.std.specs.Io.KnownBytes.{Keeps}
use Rattle.optra_outside.proofs.streams.write_piece.Given as goal

abbrev pub invariant-tries : goal.invariant-tries
invariant-tries g l = Keeps (g.W.Write.contents l.initial.under) (g.W.Write.contents l.under)
