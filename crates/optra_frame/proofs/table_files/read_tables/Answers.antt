-- The first fault of the network's tables, or else of the bids', is that of the tables.
use Rattle.optra_frame.specs.ContentsGot.{contents_of}
use Rattle.std.proofs.Common.{map, Ok, sym, ap, ◌∙◌}
use Rattle.optra_tables.specs.Bids.{parts_of}
use Rattle.optra_frame.specs.TableFiles.{Tables, meaning_of}
use Rattle.optra_frame.specs.declared.version.Version.{Version}
use Rattle.optra_frame.specs.TablesRead.{tables_seen}
use Rattle.optra_frame.proofs.RefusalLemmas.{Fails-net, Fails-bids, Gives-kept, meaning-read}
use Rattle.optra_frame.proofs.table_files.read_tables.Goals as goal

pub returns-in_err-net-clause-read : goal.returns-in_err-net-clause-read
returns-in_err-net-clause-read c =
    let contents = contents_of c.args.files.now in
    Gives-kept tables_seen c.from_residual.result c.in_err-net.field-0.0 (meaning_of contents) c.from_residual.ensures.1 (Fails-net contents c.in_err-net.field-0.0 c.in_err-net.ensures.gives)

pub returns-in-Err-clause-read : goal.returns-in-Err-clause-read
returns-in-Err-clause-read c =
    let fails = rw (c.table-bids.ensures, c.table-stops.ensures) at c.in-Err.ensures.gives in
    Fails-bids (contents_of c.args.files.now) c.in_ok-net.net c.in-Err.error c.in_ok-net.ensures.gives fails

pub returns-in-Ok-clause-read : goal.returns-in-Ok-clause-read
returns-in-Ok-clause-read c =
    let read = rw (c.table-bids.ensures, c.table-stops.ensures) at c.in-Ok.ensures.gives in
    let tables : Version → Tables = λ version. record { version = version; net = c.in_ok-net.net; bids = map parts_of c.in-Ok.bids.items } in
    meaning-read (contents_of c.args.files.now) c.in_ok-net.net _ c.in_ok-net.ensures.gives read
    ∙ ap (λ (version : Version). Ok (tables version)) (sym c.version-version.ensures)
