use Rattle.std.proofs.Common.{ℕ, ◌+◌, List, ◌++◌, ◌∷◌, [], length, sym, ◌∙◌, ap, subst, arith}
use Rattle.optra_outside.specs.Disk.{File, MayLeave, after_write, after_sync, AfterFailedWrite}
use Rattle.optra_outside.specs.Moments.{LeavesOnly}
use Rattle.optra_house.specs.Journal.{HasBeforeOrAfter, IsSettled}
use Rattle.optra_house.proofs.Appending.{leaves_start, leaves_staged, failed_staged, leaves_open, failed_open, leaves_all, acknowledged, settles}
use Rattle.optra_house.proofs.journal.append_entry.Goals as goal

pub returns-in_err-behind-clause-any_moment : goal.returns-in_err-behind-clause-any_moment
returns-in_err-behind-clause-any_moment g c = λ tells payloads settled.
    leaves_start payloads c.args.payload.now c.args.gate (g.D.Disk.state c.args.disk.now).file (omega (arith, c.requires.size)) settled

pub returns-in_err-write_at-clause-any_moment : goal.returns-in_err-write_at-clause-any_moment
returns-in_err-write_at-clause-any_moment g c = λ tells payloads settled.
    let file = (g.D.Disk.state c.args.disk.now).file in
    let behind = c.deref.ensures.value ∙ c.in_ok-behind.ensures in
    failed_staged payloads c.args.payload.now c.args.gate file (omega (arith, c.requires.size)) settled _
    (subst (λ (b : List ℕ). AfterFailedWrite (c.args.gate + 1) (length b) file (g.D.Disk.state c.write_at.new.self).file) behind (c.in_err-write_at.ensures.err tells))

pub returns-in_err-sync-clause-any_moment : goal.returns-in_err-sync-clause-any_moment
returns-in_err-sync-clause-any_moment g c = λ tells payloads settled.
    let file = (g.D.Disk.state c.args.disk.now).file in
    let behind = c.deref.ensures.value ∙ c.in_ok-behind.ensures in
    let staged = c.in_ok-write_at.ensures.ok tells ∙ ap (λ (b : List ℕ). after_write (c.args.gate + 1) b file) behind in
    let still = c.in_err-sync.ensures.err (c.write_at.ensures.leaves.tells ∙ tells) ∙ staged in
    subst (λ (f : File). LeavesOnly file f (HasBeforeOrAfter payloads c.args.payload.now)) (sym still)
    (leaves_staged payloads c.args.payload.now c.args.gate file (omega (arith, c.requires.size)) settled)

pub returns-in_err-write_at-2-clause-any_moment : goal.returns-in_err-write_at-2-clause-any_moment
returns-in_err-write_at-2-clause-any_moment g c = λ tells payloads settled.
    let file = (g.D.Disk.state c.args.disk.now).file in
    let behind = c.deref.ensures.value ∙ c.in_ok-behind.ensures in
    let staged = c.in_ok-write_at.ensures.ok tells ∙ ap (λ (b : List ℕ). after_write (c.args.gate + 1) b file) behind in
    let told = c.write_at.ensures.leaves.tells ∙ tells in
    let kept = c.in_ok-sync.ensures.ok told ∙ ap after_sync staged in
    failed_open payloads c.args.payload.now c.args.gate file (omega (arith, c.requires.size)) settled _
    (subst (λ (f : File). AfterFailedWrite c.args.gate 1 f (g.D.Disk.state c.write_at-2.new.self).file) kept (c.in_err-write_at-2.ensures.err (c.sync.ensures.leaves.tells ∙ told)))

pub returns-in_err-sync-2-clause-any_moment : goal.returns-in_err-sync-2-clause-any_moment
returns-in_err-sync-2-clause-any_moment g c = λ tells payloads settled.
    let file = (g.D.Disk.state c.args.disk.now).file in
    let behind = c.deref.ensures.value ∙ c.in_ok-behind.ensures in
    let staged = c.in_ok-write_at.ensures.ok tells ∙ ap (λ (b : List ℕ). after_write (c.args.gate + 1) b file) behind in
    let told = c.write_at.ensures.leaves.tells ∙ tells in
    let kept = c.in_ok-sync.ensures.ok told ∙ ap after_sync staged in
    let told_kept = c.sync.ensures.leaves.tells ∙ told in
    let opened = c.in_ok-write_at-2.ensures.ok told_kept ∙ ap (after_write c.args.gate (1 ∷ [])) kept in
    let still = c.in_err-sync-2.ensures.err (c.write_at-2.ensures.leaves.tells ∙ told_kept) ∙ opened in
    subst (λ (f : File). LeavesOnly file f (HasBeforeOrAfter payloads c.args.payload.now)) (sym still)
    (leaves_open payloads c.args.payload.now c.args.gate file (omega (arith, c.requires.size)) settled)

pub returns-clause-any_moment : goal.returns-clause-any_moment
returns-clause-any_moment g c = λ tells payloads settled.
    let file = (g.D.Disk.state c.args.disk.now).file in
    let behind = c.deref.ensures.value ∙ c.in_ok-behind.ensures in
    let staged = c.in_ok-write_at.ensures.ok tells ∙ ap (λ (b : List ℕ). after_write (c.args.gate + 1) b file) behind in
    let told = c.write_at.ensures.leaves.tells ∙ tells in
    let kept = c.in_ok-sync.ensures.ok told ∙ ap after_sync staged in
    let told_kept = c.sync.ensures.leaves.tells ∙ told in
    let opened = c.in_ok-write_at-2.ensures.ok told_kept ∙ ap (after_write c.args.gate (1 ∷ [])) kept in
    let ended = c.in_ok-sync-2.ensures.ok (c.write_at-2.ensures.leaves.tells ∙ told_kept) ∙ ap after_sync opened in
    subst (λ (f : File). LeavesOnly file f (HasBeforeOrAfter payloads c.args.payload.now)) (sym ended)
    (leaves_all payloads c.args.payload.now c.args.gate file (omega (arith, c.requires.size)) settled)

pub returns-clause-acknowledged : goal.returns-clause-acknowledged
returns-clause-acknowledged g c = λ tells payloads settled image left.
    let file = (g.D.Disk.state c.args.disk.now).file in
    let behind = c.deref.ensures.value ∙ c.in_ok-behind.ensures in
    let staged = c.in_ok-write_at.ensures.ok tells ∙ ap (λ (b : List ℕ). after_write (c.args.gate + 1) b file) behind in
    let told = c.write_at.ensures.leaves.tells ∙ tells in
    let kept = c.in_ok-sync.ensures.ok told ∙ ap after_sync staged in
    let told_kept = c.sync.ensures.leaves.tells ∙ told in
    let opened = c.in_ok-write_at-2.ensures.ok told_kept ∙ ap (after_write c.args.gate (1 ∷ [])) kept in
    let ended = c.in_ok-sync-2.ensures.ok (c.write_at-2.ensures.leaves.tells ∙ told_kept) ∙ ap after_sync opened in
    acknowledged payloads c.args.payload.now c.args.gate file (omega (arith, c.requires.size)) settled image
    (subst (λ (f : File). MayLeave f.now image) ended left)

pub returns-clause-settled : goal.returns-clause-settled
returns-clause-settled g c = λ tells payloads settled.
    let file = (g.D.Disk.state c.args.disk.now).file in
    let behind = c.deref.ensures.value ∙ c.in_ok-behind.ensures in
    let staged = c.in_ok-write_at.ensures.ok tells ∙ ap (λ (b : List ℕ). after_write (c.args.gate + 1) b file) behind in
    let told = c.write_at.ensures.leaves.tells ∙ tells in
    let kept = c.in_ok-sync.ensures.ok told ∙ ap after_sync staged in
    let told_kept = c.sync.ensures.leaves.tells ∙ told in
    let opened = c.in_ok-write_at-2.ensures.ok told_kept ∙ ap (after_write c.args.gate (1 ∷ [])) kept in
    let ended = c.in_ok-sync-2.ensures.ok (c.write_at-2.ensures.leaves.tells ∙ told_kept) ∙ ap after_sync opened in
    subst (λ (f : File). IsSettled (payloads ++ c.args.payload.now ∷ []) (c.args.gate + 5 + length c.args.payload.now) f.now) (sym ended)
    (settles payloads c.args.payload.now c.args.gate file (omega (arith, c.requires.size)) settled)
