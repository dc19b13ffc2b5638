use Rattle.std.proofs.Common.{sym, ◌∙◌, ap, subst}
use Rattle.optra_outside.specs.Disk.{File, after_sync}
use Rattle.optra_outside.specs.Moments.{LeavesOnly}
use Rattle.optra_house.proofs.Beginning.{failed_heading, leaves_heading, leaves_synced, Short}
use Rattle.optra_house.proofs.journal.write_heading.Goals as goal

pub returns-in_err-write_at-clause-any_moment : goal.returns-in_err-write_at-clause-any_moment
returns-in_err-write_at-clause-any_moment g c = λ tells.
    failed_heading (g.D.Disk.state c.args.disk.now).file (c.requires.short tells) _ (c.in_err-write_at.ensures.err tells)

pub returns-in_err-sync-clause-any_moment : goal.returns-in_err-sync-clause-any_moment
returns-in_err-sync-clause-any_moment g c = λ tells.
    let told = c.write_at.ensures.leaves.tells ∙ tells in
    let still = c.in_err-sync.ensures.err told ∙ c.in_ok-write_at.ensures.ok tells in
    subst (λ (f : File). LeavesOnly (g.D.Disk.state c.args.disk.now).file f Short) (sym still)
    (leaves_heading (g.D.Disk.state c.args.disk.now).file (c.requires.short tells))

pub returns-clause-any_moment : goal.returns-clause-any_moment
returns-clause-any_moment g c = λ tells.
    let told = c.write_at.ensures.leaves.tells ∙ tells in
    let done = c.in_ok-sync.ensures.ok told ∙ ap after_sync (c.in_ok-write_at.ensures.ok tells) in
    subst (λ (f : File). LeavesOnly (g.D.Disk.state c.args.disk.now).file f Short) (sym done)
    (leaves_synced (g.D.Disk.state c.args.disk.now).file (c.requires.short tells))
