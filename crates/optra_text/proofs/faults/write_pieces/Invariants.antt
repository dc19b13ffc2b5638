-- The pieces so far were written.
use Rattle.std.proofs.Common.{take}
use Rattle.std.specs.List.{flat_map}
use Rattle.optra_outside.specs.Pen.{Wrote}
use Rattle.optra_text.proofs.faults.write_pieces.Given as goal

abbrev pub invariant-pieces : goal.invariant-pieces
invariant-pieces g l = Wrote (g.P.Pen.state l.fn.pen) (g.P.Pen.state l.pen) (flat_map (λ piece. piece.now) (take l.piece-index l.pieces))
