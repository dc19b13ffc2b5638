-- The payments are those by the rows of the version.
use Rattle.std.proofs.Common.{map}
use Rattle.std.proofs.lemmas.Result.{IfOk-weaker}
use Rattle.optra_bid.specs.Offers.{offer_of}
use Rattle.optra_top.specs.PayCommand.{PrintsPayments}
use Rattle.optra_frame.specs.Puts.{texts_of}
use Rattle.optra_verdict.proofs.FamilyLemmas.{of_second}
use Rattle.optra_top.proofs.pay_command.reply_to.Goals as goal

pub returns-in-Second : goal.returns-in-Second
returns-in-Second c =
    let tables = c.args.tables.now in
    IfOk-weaker c.reply_by-in-Second.result _ _
    (λ answer says. of_second (λ R family Keeps. PrintsPayments family Keeps c.args.limits tables.net (map offer_of tables.bids.items) answer.status answer.text.items (texts_of answer.puts.items))
    _ tables.version tables.net c.all_rows_are_told.ensures.order c.in-Second.is says)
    (rw c.deref.ensures.value at c.reply_by-in-Second.ensures)
