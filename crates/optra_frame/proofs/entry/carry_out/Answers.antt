-- What each status says, by how the command ended.
use Rattle.std.proofs.Common.{inr}
use Rattle.optra_frame.proofs.EndingLemmas.{Ends-done, Ends-fault}
use Rattle.optra_frame.proofs.CompletionLemmas.{Completes-done, Completes-fault}
use Rattle.optra_frame.proofs.entry.carry_out.Goals as goal

pub returns-in-Ok-clause-ends : goal.returns-in-Ok-clause-ends
returns-in-Ok-clause-ends g c = Ends-done _ _ _ c.in-Ok.status (g.met.C.Command.lawful c.args.command.now) (c.in-Ok.ensures.ok (g.E.Pen.state c.args.err.now))

pub returns-in-Ok-clause-completes : goal.returns-in-Ok-clause-completes
returns-in-Ok-clause-completes g c = Completes-done _ _ _ c.in-Ok.status (g.met.C.Command.lawful c.args.command.now) (c.in-Ok.ensures.ok (g.E.Pen.state c.args.err.now))

pub returns-in-Ok-clause-statuses : goal.returns-in-Ok-clause-statuses
returns-in-Ok-clause-statuses g c = inr (c.in-Ok.ensures.ok (g.E.Pen.state c.args.err.now)).done

pub returns-in-Err-clause-ends : goal.returns-in-Err-clause-ends
returns-in-Err-clause-ends g c = rw c.end.ensures.status (Ends-fault _ _ _ c.in-Err.fault (c.in-Err.ensures.fault (g.E.Pen.state c.args.err.now) (g.E.Pen.state c.end.new.err)) c.end.ensures.says)

pub returns-in-Err-clause-completes : goal.returns-in-Err-clause-completes
returns-in-Err-clause-completes g c =
    rw c.end.ensures.status (Completes-fault _ _ _ c.in-Err.fault (g.met.C.Command.lawful c.args.command.now) (c.in-Err.ensures.fault (g.E.Pen.state c.args.err.now) (g.E.Pen.state c.end.new.err)) c.end.ensures.says)
