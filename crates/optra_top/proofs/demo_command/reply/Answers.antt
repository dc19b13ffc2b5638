-- The demo of the tables by the rule is the reply.
use Rattle.optra_frame.specs.TablesRead.{tables_seen}
use Rattle.optra_top.proofs.StatusLemmas.{status-of_plan}
use Rattle.optra_top.proofs.demo_command.reply.Goals as goal

pub returns-clause-ok : goal.returns-clause-ok
returns-clause-ok c = (tables_seen c.in-Ok.tables, c.in-Ok.ensures.read, rw c.deref.ensures.value at c.in-Ok-answer.ensures)

pub returns-clause-done : goal.returns-clause-done
returns-clause-done c =
    let printed = c.in-Ok-answer.ensures in
    status-of_plan printed.plan.revenue printed.plan.bound c.in-Ok-answer.answer.status printed.ends
