-- The lines that were read are those of the timetable, and a timetable that was not read ends the command.
use Rattle.std.proofs.Common.{refl}
use Rattle.std.proofs.Common.{List, subst}
use Rattle.optra_audit.specs.Timetables.{Fails, bid_names, lines_of}
use Rattle.optra_bid.specs.declared.bids.Bid.{Bid}
use Rattle.optra_frame.specs.TablesRead.{tables_seen}
use Rattle.optra_top.proofs.TimedLemmas.{lines-read, times-end}
use Rattle.optra_top.proofs.timetable_read.read_audited.Goals as goal

pub returns-in-Err-clause-fault : goal.returns-in-Err-clause-fault
returns-in-Err-clause-fault c =
    let tables = c.args.tables.now in
    times-end (tables_seen tables) tables.bids.items c.args.bytes.now c.in-Err.error c.told.result refl
    (subst (λ (bids : List Bid). Fails c.in-Err.error (lines_of tables.net (bid_names bids) c.args.bytes.now)) c.deref.ensures.value c.in-Err.ensures.gives) c.told.ensures

pub returns-clause-read : goal.returns-clause-read
returns-clause-read c =
    let tables = c.args.tables.now in
    lines-read (tables_seen tables) tables.bids.items c.args.bytes.now c.in-Ok.lines.items refl
    (rw c.deref.ensures.value at c.in-Ok.ensures.gives)
