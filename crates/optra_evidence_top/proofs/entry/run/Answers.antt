-- What each status says, by what the words ask for. The command never calls the disk.
use Rattle.std.proofs.Common.{◌∙◌, ap, inl, refl, sym, Some}
use Rattle.optra_evidence_top.proofs.EntryLemmas.{completes-asked, completes-unread, ends-asked, ends-unread, statuses-asked, unread-fault}
use Rattle.optra_evidence_top.proofs.entry.run.Goals as goal

pub returns-in-Ok-clause-ends : goal.returns-in-Ok-clause-ends
returns-in-Ok-clause-ends g c = ends-asked c.args.words.now _ _ _ _ (c.in-Ok.ensures.read ∙ ap Some (sym c.new.ensures)) c.carry_out.ensures.ends

pub returns-in-Ok-clause-completes : goal.returns-in-Ok-clause-completes
returns-in-Ok-clause-completes g c = completes-asked c.args.words.now _ _ _ _ (c.in-Ok.ensures.read ∙ ap Some (sym c.new.ensures)) c.carry_out.ensures.completes

pub returns-in-Ok-clause-statuses : goal.returns-in-Ok-clause-statuses
returns-in-Ok-clause-statuses g c = statuses-asked c.args.words.now _ _ (c.in-Ok.ensures.read ∙ ap Some (sym c.new.ensures)) c.carry_out.ensures.statuses

pub returns-in-Err-clause-ends : goal.returns-in-Err-clause-ends
returns-in-Err-clause-ends g c = rw c.end_unread.ensures.status (ends-unread c.args.words.now c.in-Err.why _ _ c.in-Err.ensures.read refl refl c.end_unread.ensures.says)

pub returns-in-Err-clause-completes : goal.returns-in-Err-clause-completes
returns-in-Err-clause-completes g c = rw c.end_unread.ensures.status (completes-unread c.args.words.now c.in-Err.why _ _ c.in-Err.ensures.read)

pub returns-in-Err-clause-statuses : goal.returns-in-Err-clause-statuses
returns-in-Err-clause-statuses g c = rw c.end_unread.ensures.status (inl (unread-fault c.in-Err.why))
