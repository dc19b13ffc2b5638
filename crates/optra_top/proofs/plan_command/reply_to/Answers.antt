-- The plan is that by the rows of the version.
use Rattle.std.proofs.Common.{map}
use Rattle.std.proofs.lemmas.Result.{IfOk-weaker}
use Rattle.optra_tables.specs.Bids.{parts_of}
use Rattle.optra_top.specs.PlanCommand.{PrintsPlan}
use Rattle.optra_top.specs.PlansAsked.{plan_asked}
use Rattle.optra_frame.specs.Puts.{texts_of}
use Rattle.optra_verdict.proofs.FamilyLemmas.{of_second}
use Rattle.optra_top.proofs.plan_command.reply_to.Goals as goal

pub returns-in-Second : goal.returns-in-Second
returns-in-Second c =
    let tables = c.args.tables.now in
    IfOk-weaker c.reply_by-in-Second.result _ _
    (λ answer says. of_second (λ R family Keeps. PrintsPlan family Keeps (plan_asked c.args.limits c.args.cert.now) tables.net (map parts_of tables.bids.items) answer.status answer.text.items (texts_of answer.puts.items))
    _ tables.version tables.net c.all_rows_are_told.ensures.order c.in-Second.is says)
    (rw c.deref.ensures.value at c.reply_by-in-Second.ensures)
