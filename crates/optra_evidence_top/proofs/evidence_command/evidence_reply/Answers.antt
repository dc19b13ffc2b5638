-- The evidence of the certificate for what the tables mean is the reply.
use Rattle.optra_frame.proofs.RefusalLemmas.{meaning-answered}
use Rattle.optra_verdict.specs.CheckCommand.{certificate_in}
use Rattle.optra_frame.specs.ContentsGot.{contents_of}
use Rattle.optra_frame.specs.TableFiles.{meaning_of, table_status}
use Rattle.optra_frame.specs.TablesRead.{tables_seen}
use Rattle.optra_text.specs.FaultLines.{refusal_line}
use Rattle.optra_evidence_top.specs.EvidenceCommand.{PrintsTablesEvidence}
use Rattle.optra_evidence_top.proofs.BoundLemmas.{status-evidence}
use Rattle.optra_frame.specs.Puts.{texts_of}
use Rattle.optra_evidence_top.proofs.evidence_command.evidence_reply.Goals as goal

pub returns-clause-ok : goal.returns-clause-ok
returns-clause-ok c =
    meaning-answered table_status refusal_line (PrintsTablesEvidence (certificate_in (contents_of c.args.files.now))) (meaning_of (contents_of c.args.files.now)) (tables_seen c.in_ok-tables.tables) c.in-Ok.answer c.in_ok-tables.ensures.read
    (rw c.content.ensures at c.in-Ok.ensures)

pub returns-clause-done : goal.returns-clause-done
returns-clause-done c =
    let answer = c.in-Ok.answer in
    status-evidence c.content.result.now (tables_seen c.in_ok-tables.tables) answer.status answer.text.items (texts_of answer.puts.items) c.in-Ok.ensures
