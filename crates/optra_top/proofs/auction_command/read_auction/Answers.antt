-- The first fault of the network and its bids, or else of the rules, or else of the actions, is that of the tables.
use Rattle.optra_top.specs.AuctionCommand.{auction_of}
use Rattle.optra_top.specs.AuctionRead.{auction_seen}
use Rattle.optra_frame.specs.ContentsGot.{contents_of}
use Rattle.optra_frame.specs.TablesRead.{tables_seen}
use Rattle.optra_top.proofs.AuctionTables.{Fails-tables}
use Rattle.optra_frame.proofs.RefusalLemmas.{Gives-kept}
use Rattle.optra_top.proofs.auction_command.read_auction.Goals as goal

pub returns-in_err-tables-clause-read : goal.returns-in_err-tables-clause-read
returns-in_err-tables-clause-read c =
    let contents = contents_of c.args.files.now in
    Gives-kept auction_seen c.from_residual.result c.in_err-tables.field-0.0 (auction_of contents) c.from_residual.ensures.1 (Fails-tables contents c.in_err-tables.field-0.0 c.in_err-tables.ensures.read)

pub returns-in-Err-clause-read : goal.returns-in-Err-clause-read
returns-in-Err-clause-read c = c.in-Err.ensures.read (tables_seen c.in_ok-tables.tables) c.in_ok-tables.ensures.read

pub returns-in-Ok-clause-read : goal.returns-in-Ok-clause-read
returns-in-Ok-clause-read c = c.in-Ok.ensures.read (tables_seen c.in_ok-tables.tables) c.in_ok-tables.ensures.read

pub returns-in-Ok-clause-paths : goal.returns-in-Ok-clause-paths
returns-in-Ok-clause-paths c = c.in_ok-tables.ensures.instance.paths

pub returns-in-Ok-clause-rules : goal.returns-in-Ok-clause-rules
returns-in-Ok-clause-rules c = c.in-Ok.ensures.rules

pub returns-in-Ok-clause-actions : goal.returns-in-Ok-clause-actions
returns-in-Ok-clause-actions c = c.in-Ok.ensures.actions

pub returns-in-Ok-clause-alone : goal.returns-in-Ok-clause-alone
returns-in-Ok-clause-alone c = c.in_ok-tables.ensures.alone
