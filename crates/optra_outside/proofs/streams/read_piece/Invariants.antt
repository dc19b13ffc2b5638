-- calls that were interrupted did nothing
use Rattle.std.specs.Io.KnownBytes.{Keeps}
use Rattle.optra_outside.proofs.streams.read_piece.Given as goal

abbrev pub invariant-tries : goal.invariant-tries
invariant-tries g l = Keeps (g.R.Read.remaining l.initial.reader) (g.R.Read.remaining l.reader)
