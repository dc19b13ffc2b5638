-- The evidence is that by the rows of the version.
use Rattle.std.proofs.Common.{map}
use Rattle.std.proofs.lemmas.Result.{IfOk-weaker}
use Rattle.optra_tables.specs.Bids.{parts_of}
use Rattle.optra_evidence_top.specs.EvidenceCommand.{PrintsEvidence}
use Rattle.optra_frame.specs.Puts.{texts_of}
use Rattle.optra_verdict.proofs.FamilyLemmas.{of_first, of_second}
use Rattle.optra_evidence_top.proofs.evidence_command.answer_to.Goals as goal

pub returns-in-First : goal.returns-in-First
returns-in-First c =
    let tables = c.args.tables.now in
    IfOk-weaker c.answer_by.result _ _
    (λ answer says. of_first (λ R family Keeps. PrintsEvidence family Keeps c.args.bytes.now tables.net (map parts_of tables.bids.items) answer.status answer.text.items (texts_of answer.puts.items))
    tables.version tables.net c.in-First.is says)
    (rw c.deref.ensures.value at c.answer_by.ensures)

pub returns-in-Second : goal.returns-in-Second
returns-in-Second c =
    let tables = c.args.tables.now in
    IfOk-weaker c.answer_by-in-Second.result _ _
    (λ answer says. of_second (λ R family Keeps. PrintsEvidence family Keeps c.args.bytes.now tables.net (map parts_of tables.bids.items) answer.status answer.text.items (texts_of answer.puts.items))
    _ tables.version tables.net c.all_rows_are_told.ensures.order c.in-Second.is says)
    (rw c.deref.ensures.value at c.answer_by-in-Second.ensures)
