-- The auction goes on by the rows of the version.
use Rattle.std.proofs.lemmas.Result.{IfOk-weaker}
use Rattle.optra_verdict.proofs.FamilyLemmas.{of_second}
use Rattle.optra_verdict.proofs.RuleLemmas.{all-tell}
use Rattle.optra_top.specs.HouseRuns.{GoesOnFrom}
use Rattle.optra_top.proofs.house_command.go_on.Goals as goal

pub go_on_by-requires-in-Second-clause-rule : goal.go_on_by-requires-in-Second-clause-rule
go_on_by-requires-in-Second-clause-rule g c bids = all-tell c.args.net.now bids c.laws.ensures

pub returns-in-Second-clause-ok : goal.returns-in-Second-clause-ok
returns-in-Second-clause-ok g c =
    IfOk-weaker c.go_on_by-in-Second.result _ _
    (λ answer says. of_second (λ R family Keeps. GoesOnFrom family Keeps c.args.net.now c.args.names.now c.args.actions.items c.args.house (g.D.Disk.state c.args.disk.now) (g.D.Disk.state c.go_on_by-in-Second.new.disk) answer)
    _ c.args.version c.args.net.now c.all_rows_are_told.ensures.order c.in-Second.is says)
    c.go_on_by-in-Second.ensures.ok
