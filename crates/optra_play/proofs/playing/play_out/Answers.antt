-- Each round goes on from those before it, and fewer may come; the last one closes the auction.
use Rattle.std.proofs.Common.{sym, ap, ◌∙◌, subst, All}
use Rattle.std.proofs.lemmas.Result.{IfOk-weaker}
use Rattle.optra_auction.specs.Machine.{HasAmount, spec_names}
use Rattle.optra_bid.specs.Specs.{IsPathOn}
use Rattle.optra_bid.specs.declared.bids.Bid.{Bid}
use Rattle.optra_tables.specs.declared.TimedAct.{TimedAct}
use Rattle.optra_play.proofs.RoundLemmas.{left-amounts, played-first, played-fewer, played-next, played-out}
use Rattle.optra_play.proofs.playing.play_out.Goals as goal

pub rounds-init : goal.rounds-init
rounds-init g c =
    played-first (record { cmp = g.F.Row.Ord.cmp; rows = g.F.RowFamily.rows_of c.args.rows.now c.args.net.now; texts = g.F.RowText.texts_of c.args.rows.now })
    (g.F.RowFamily.KeepsRule c.args.rows.now c.args.net.now) c.args.net.now c.args.certs.now c.args.playing.now.auction.specs c.args.playing.now.auction.rules c.args.playing.now.left.items c.args.playing.now
    c.requires.begun c.requires.rules c.requires.actions

pub play_round-requires-clause-rule : goal.play_round-requires-clause-rule
play_round-requires-clause-rule g c = c.requires.rule

pub play_round-requires-clause-apart : goal.play_round-requires-clause-apart
play_round-requires-clause-apart g c = c.requires.apart

pub play_round-requires-clause-few : goal.play_round-requires-clause-few
play_round-requires-clause-few g c = c.requires.few

pub play_round-requires-clause-names : goal.play_round-requires-clause-names
play_round-requires-clause-names g c = c.requires.names ∙ ap spec_names (sym c.rounds.invariant.specs_are)

pub play_round-requires-clause-paths : goal.play_round-requires-clause-paths
play_round-requires-clause-paths g c = subst (All (λ (spec : Bid). IsPathOn c.args.net.now spec.path)) (sym c.rounds.invariant.specs_are) c.requires.paths

pub play_round-requires-clause-network : goal.play_round-requires-clause-network
play_round-requires-clause-network g c = c.rounds.invariant.network_is

pub play_round-requires-clause-amounts : goal.play_round-requires-clause-amounts
play_round-requires-clause-amounts g c =
    subst (All (λ (a : TimedAct). HasAmount a.act)) (sym c.rounds.invariant.left_is)
    (left-amounts c.rounds.playing.auction c.args.playing.now.left.items c.requires.actions.amounts)

pub play_round-requires-clause-open : goal.play_round-requires-clause-open
play_round-requires-clause-open g c = sym c.closed.ensures ∙ c.rounds-test.true

pub rounds-smaller : goal.rounds-smaller
rounds-smaller g c =
    played-fewer (record { cmp = g.F.Row.Ord.cmp; rows = g.F.RowFamily.rows_of c.args.rows.now c.args.net.now; texts = g.F.RowText.texts_of c.args.rows.now })
    (g.F.RowFamily.KeepsRule c.args.rows.now c.args.net.now) c.args.net.now c.args.certs.now c.args.playing.now.auction.specs c.args.playing.now.auction.rules c.args.playing.now.left.items
    c.rounds.playing c.play_round.new.playing (sym c.closed.ensures ∙ c.rounds-test.true) c.rounds.invariant
    (rw c.requires.names at c.in_ok-play_round.ensures)

pub rounds-preserved : goal.rounds-preserved
rounds-preserved g c =
    played-next (record { cmp = g.F.Row.Ord.cmp; rows = g.F.RowFamily.rows_of c.args.rows.now c.args.net.now; texts = g.F.RowText.texts_of c.args.rows.now })
    (g.F.RowFamily.KeepsRule c.args.rows.now c.args.net.now) c.args.net.now c.args.certs.now c.args.playing.now.auction.specs c.args.playing.now.auction.rules c.args.playing.now.left.items
    c.rounds.playing c.play_round.new.playing (sym c.closed.ensures ∙ c.rounds-test.true) c.rounds.invariant
    (rw c.requires.names at c.in_ok-play_round.ensures)

pub returns : goal.returns
returns g c =
    IfOk-weaker c.finish.result _ _
    (λ answer ends. played-out (record { cmp = g.F.Row.Ord.cmp; rows = g.F.RowFamily.rows_of c.args.rows.now c.args.net.now; texts = g.F.RowText.texts_of c.args.rows.now })
    (g.F.RowFamily.KeepsRule c.args.rows.now c.args.net.now) c.args.net.now c.args.certs.now c.args.playing.now.auction.specs c.args.playing.now.auction.rules c.args.playing.now.left.items
    c.rounds.playing answer c.rounds.invariant (sym c.closed.ensures ∙ c.rounds-test.false) ends)
    c.finish.ensures
