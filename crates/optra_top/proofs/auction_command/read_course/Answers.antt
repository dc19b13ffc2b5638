-- The first fault of the rules, or else of the actions, is that of the files.
use Rattle.optra_top.specs.AuctionCommand.{auction_of}
use Rattle.optra_top.specs.AuctionRead.{auction_with}
use Rattle.optra_frame.specs.ContentsGot.{contents_of}
use Rattle.optra_top.proofs.AuctionTables.{Fails-actions, Fails-rules, auction-read}
use Rattle.optra_frame.proofs.RefusalLemmas.{Gives-kept}
use Rattle.optra_top.proofs.auction_command.read_course.Goals as goal

pub returns-in_err-rules-clause-read : goal.returns-in_err-rules-clause-read
returns-in_err-rules-clause-read c tables is =
    let contents = contents_of c.args.files.now in
    let fails = rw c.table-rules_text.ensures at c.in_err-rules.ensures.gives in
    Gives-kept (auction_with tables) c.from_residual.result c.in_err-rules.field-0.0 (auction_of contents) c.from_residual.ensures.1 (Fails-rules contents tables c.in_err-rules.field-0.0 is fails)

pub returns-in_err-actions-clause-read : goal.returns-in_err-actions-clause-read
returns-in_err-actions-clause-read c tables is =
    let contents = contents_of c.args.files.now in
    let read = rw c.table-rules_text.ensures at c.in_ok-rules.ensures.gives in
    let fails = rw c.table-actions_text.ensures at c.in_err-actions.ensures.gives in
    Gives-kept (auction_with tables) c.from_residual-in_err-actions.result c.in_err-actions.field-0.0 (auction_of contents) c.from_residual-in_err-actions.ensures.1
    (Fails-actions contents tables c.in_ok-rules.rules c.in_err-actions.field-0.0 is read fails)

pub returns-clause-read : goal.returns-clause-read
returns-clause-read c tables is =
    let read = rw c.table-rules_text.ensures at c.in_ok-rules.ensures.gives in
    let told = rw c.table-actions_text.ensures at c.in_ok-actions.ensures.gives in
    auction-read (contents_of c.args.files.now) tables c.in_ok-rules.rules c.in_ok-actions.actions.items is read told
