-- The pieces before were written, and a first part of this one.
use Rattle.optra_text.proofs.PieceLemmas.{pieces_stopped}
use Rattle.optra_text.proofs.faults.write_pieces.Goals as goal

pub returns-in_err-write : goal.returns-in_err-write
returns-in_err-write g c =
    pieces_stopped (g.P.Pen.state c.args.pen.now) (g.P.Pen.state c.pieces.pen) (g.P.Pen.state c.write.new.self) c.args.pieces.now c.pieces.piece-index _ c.as_bytes.result.now
    c.from_residual.result c.pieces-test.true c.as_bytes.ensures.value c.from_residual.ensures.0 c.pieces.invariant c.in_err-write.ensures.writes.part c.in_err-write.ensures.writes.cause
