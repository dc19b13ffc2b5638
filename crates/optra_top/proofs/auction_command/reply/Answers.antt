-- The play of what the tables mean is the reply.
use Rattle.std.proofs.Common.{refl}
use Rattle.optra_top.specs.AuctionCommand.{PrintsPlay, PrintsTablesPlay, auction_of}
use Rattle.optra_top.specs.AuctionRead.{auction_seen}
use Rattle.optra_frame.specs.ContentsGot.{contents_of}
use Rattle.optra_play.specs.Play.{IsPlayedOut}
use Rattle.optra_frame.specs.Puts.{texts_of}
use Rattle.optra_verdict.proofs.FamilyLemmas.{of_version-map}
use Rattle.optra_frame.proofs.RefusalLemmas.{meaning-answered}
use Rattle.optra_text.specs.FaultLines.{refusal_line}
use Rattle.optra_frame.specs.TableFiles.{table_status}
use Rattle.std.proofs.Common.{◌≡◌, ◌⊎◌}
use Rattle.optra_frame.specs.Statuses.{gap_status, optimal_status}
use Rattle.optra_verdict.proofs.FamilyLemmas.{of_version-then}
use Rattle.optra_top.proofs.StatusLemmas.{status-of_play}
use Rattle.optra_top.proofs.auction_command.reply.Goals as goal

pub returns-clause-ok : goal.returns-clause-ok
returns-clause-ok c =
    let tables = c.in_ok-tables.tables in
    let answer = c.in-Ok.answer in
    meaning-answered table_status refusal_line (PrintsTablesPlay c.args.certs.now) (auction_of (contents_of c.args.files.now)) (auction_seen tables) answer c.in_ok-tables.ensures.read
    (of_version-map
    (λ R family Keeps. IsPlayedOut family Keeps tables.net c.args.certs.now tables.specs.items tables.rules tables.actions.items answer.status answer.text.items (texts_of answer.puts.items))
    (λ R family Keeps. PrintsPlay family Keeps c.args.certs.now (auction_seen tables) answer.status answer.text.items (texts_of answer.puts.items))
    tables.version tables.net
    (λ R family Keeps plays. record { specs = tables.specs.items; are_those = refl; plays = plays })
    c.in-Ok.ensures)

pub returns-clause-done : goal.returns-clause-done
returns-clause-done c =
    let tables = c.in_ok-tables.tables in
    let answer = c.in-Ok.answer in
    of_version-then
    (λ R family Keeps. IsPlayedOut family Keeps tables.net c.args.certs.now tables.specs.items tables.rules tables.actions.items answer.status answer.text.items (texts_of answer.puts.items))
    ((answer.status ≡ optimal_status) ⊎ (answer.status ≡ gap_status))
    tables.version tables.net
    (λ R family Keeps plays. status-of_play plays.rounds answer.status plays.ends)
    c.in-Ok.ensures
