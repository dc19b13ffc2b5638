-- The play is that by the rows of the version.
use Rattle.std.proofs.lemmas.Result.{IfOk-weaker}
use Rattle.optra_play.specs.Play.{IsPlayedOut}
use Rattle.optra_frame.specs.Puts.{texts_of}
use Rattle.optra_verdict.proofs.FamilyLemmas.{of_first, of_second}
use Rattle.optra_verdict.proofs.RuleLemmas.{all-tell, headways-tell}
use Rattle.optra_top.proofs.auction_command.play_by.Goals as goal

pub play-requires-clause-rule : goal.play-requires-clause-rule
play-requires-clause-rule c bids = headways-tell c.args.net.now bids (c.requires.alone c.in-First.is)

pub returns-in-First : goal.returns-in-First
returns-in-First c =
    IfOk-weaker c.play.result _ _
    (λ answer says. of_first (λ R family Keeps. IsPlayedOut family Keeps c.args.net.now c.args.certs.now c.args.specs.items c.args.rules c.args.actions.items answer.status answer.text.items (texts_of answer.puts.items))
    c.args.version c.args.net.now c.in-First.is says)
    c.play.ensures

pub play-requires-in-Second-clause-rule : goal.play-requires-in-Second-clause-rule
play-requires-in-Second-clause-rule c bids = all-tell c.args.net.now bids c.laws.ensures

pub returns-in-Second : goal.returns-in-Second
returns-in-Second c =
    IfOk-weaker c.play-in-Second.result _ _
    (λ answer says. of_second (λ R family Keeps. IsPlayedOut family Keeps c.args.net.now c.args.certs.now c.args.specs.items c.args.rules c.args.actions.items answer.status answer.text.items (texts_of answer.puts.items))
    _ c.args.version c.args.net.now c.all_rows_are_told.ensures.order c.in-Second.is says)
    c.play-in-Second.ensures
