-- What was begun is played out.
use Rattle.std.proofs.Common.{sym, ap, ◌∙◌, subst, All}
use Rattle.std.proofs.lemmas.Result.{IfOk-weaker}
use Rattle.optra_auction.specs.Machine.{AreRules, spec_names}
use Rattle.optra_bid.specs.Specs.{IsPathOn}
use Rattle.optra_bid.specs.declared.bids.Bid.{Bid}
use Rattle.optra_tables.specs.Actions.{AreActions}
use Rattle.optra_frame.specs.Puts.{texts_of}
use Rattle.optra_play.proofs.RoundLemmas.{begun-own, begun-played, begun-rules, begun-specs}
use Rattle.optra_play.proofs.playing.play.Goals as goal

pub play_out-answer-requires-clause-rule : goal.play_out-answer-requires-clause-rule
play_out-answer-requires-clause-rule g c = c.requires.rule

pub play_out-answer-requires-clause-apart : goal.play_out-answer-requires-clause-apart
play_out-answer-requires-clause-apart g c = c.requires.apart

pub play_out-answer-requires-clause-few : goal.play_out-answer-requires-clause-few
play_out-answer-requires-clause-few g c = c.requires.few

pub play_out-answer-requires-clause-names : goal.play_out-answer-requires-clause-names
play_out-answer-requires-clause-names g c = c.deref-2.ensures.value ∙ c.in_ok-names.ensures ∙ ap spec_names (c.deref.ensures.value ∙ sym (begun-specs c.in_ok-playing.ensures))

pub play_out-answer-requires-clause-paths : goal.play_out-answer-requires-clause-paths
play_out-answer-requires-clause-paths g c = subst (All (λ (spec : Bid). IsPathOn c.args.net.now spec.path)) (sym (begun-specs c.in_ok-playing.ensures)) c.requires.paths

pub play_out-answer-requires-clause-rules : goal.play_out-answer-requires-clause-rules
play_out-answer-requires-clause-rules g c = subst AreRules (sym (begun-rules c.in_ok-playing.ensures)) c.requires.rules

pub play_out-answer-requires-clause-actions : goal.play_out-answer-requires-clause-actions
play_out-answer-requires-clause-actions g c = subst AreActions (sym c.in_ok-playing.ensures.left_is) c.requires.actions

pub play_out-answer-requires-clause-begun : goal.play_out-answer-requires-clause-begun
play_out-answer-requires-clause-begun g c = begun-own c.in_ok-playing.ensures

pub returns : goal.returns
returns g c =
    IfOk-weaker c.play_out-answer.result _ _
    (λ answer out. begun-played (record { cmp = g.F.Row.Ord.cmp; rows = g.F.RowFamily.rows_of c.args.rows.now c.args.net.now; texts = g.F.RowText.texts_of c.args.rows.now })
    (g.F.RowFamily.KeepsRule c.args.rows.now c.args.net.now) c.args.certs.now c.in_ok-playing.ensures answer.status answer.text.items (texts_of answer.puts.items) out)
    c.play_out-answer.ensures
