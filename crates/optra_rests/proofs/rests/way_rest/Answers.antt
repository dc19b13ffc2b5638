-- All legs by the way.
use Rattle.std.proofs.Common.{◌≡◌, subst, sym, ◌∙◌, Option, ℤ}
use Rattle.optra_rests.specs.Rests.{IsBestRest, greater_of}
use Rattle.optra_rests.specs.Ways.{IsOn}
use Rattle.optra_rests.proofs.MoveLemmas.{way_best}
use Rattle.optra_rests.proofs.rests.way_rest.Goals as goal

pub returns-clause-best : goal.returns-clause-best
returns-clause-best g c =
    let w = g.W.Weighing.weights c.args.weighing.now in
    let e : c.greater-3.result ≡ greater_of (greater_of c.pass_rest-pass.result c.halts_rest-halts.result) (greater_of c.waits_rest-waits.result c.finish_rest-finish.result) =
    c.greater-3.ensures ∙ (λ i. greater_of (c.greater.ensures i) (c.greater-2.ensures i)) in
    subst (λ (o : Option ℤ). IsBestRest w c.args.net.now c.args.bid.now c.args.way.from (IsOn c.args.way.track) o) (sym e)
    (way_best w c.args.net.now c.args.bid.now c.args.table.now c.args.way.from c.requires.ready c.args.way c.requires.way c.requires.weights
    c.pass_rest-pass.result c.halts_rest-halts.result c.waits_rest-waits.result c.finish_rest-finish.result c.pass_rest-pass.ensures.best c.halts_rest-halts.ensures.best c.waits_rest-waits.ensures.best c.finish_rest-finish.ensures.best)

pub pass_rest-pass-requires-clause-asks : goal.pass_rest-pass-requires-clause-asks
pass_rest-pass-requires-clause-asks g c = c.requires.asks

pub pass_rest-pass-requires-clause-weights : goal.pass_rest-pass-requires-clause-weights
pass_rest-pass-requires-clause-weights g c = c.requires.weights

pub pass_rest-pass-requires-clause-ready : goal.pass_rest-pass-requires-clause-ready
pass_rest-pass-requires-clause-ready g c = c.requires.ready

pub pass_rest-pass-requires-clause-way : goal.pass_rest-pass-requires-clause-way
pass_rest-pass-requires-clause-way g c = c.requires.way

pub halts_rest-halts-requires-clause-asks : goal.halts_rest-halts-requires-clause-asks
halts_rest-halts-requires-clause-asks g c = c.pass_rest-pass.ensures.asks

pub halts_rest-halts-requires-clause-weights : goal.halts_rest-halts-requires-clause-weights
halts_rest-halts-requires-clause-weights g c = c.requires.weights

pub halts_rest-halts-requires-clause-ready : goal.halts_rest-halts-requires-clause-ready
halts_rest-halts-requires-clause-ready g c = c.requires.ready

pub halts_rest-halts-requires-clause-way : goal.halts_rest-halts-requires-clause-way
halts_rest-halts-requires-clause-way g c = c.requires.way

pub waits_rest-waits-requires-clause-asks : goal.waits_rest-waits-requires-clause-asks
waits_rest-waits-requires-clause-asks g c = c.halts_rest-halts.ensures.asks

pub waits_rest-waits-requires-clause-weights : goal.waits_rest-waits-requires-clause-weights
waits_rest-waits-requires-clause-weights g c = c.requires.weights

pub waits_rest-waits-requires-clause-ready : goal.waits_rest-waits-requires-clause-ready
waits_rest-waits-requires-clause-ready g c = c.requires.ready

pub waits_rest-waits-requires-clause-way : goal.waits_rest-waits-requires-clause-way
waits_rest-waits-requires-clause-way g c = c.requires.way

pub finish_rest-finish-requires-clause-asks : goal.finish_rest-finish-requires-clause-asks
finish_rest-finish-requires-clause-asks g c = c.waits_rest-waits.ensures.asks

pub finish_rest-finish-requires-clause-weights : goal.finish_rest-finish-requires-clause-weights
finish_rest-finish-requires-clause-weights g c = c.requires.weights

pub finish_rest-finish-requires-clause-ready : goal.finish_rest-finish-requires-clause-ready
finish_rest-finish-requires-clause-ready g c = c.requires.ready

pub finish_rest-finish-requires-clause-way : goal.finish_rest-finish-requires-clause-way
finish_rest-finish-requires-clause-way g c = c.requires.way

pub returns-clause-asks : goal.returns-clause-asks
returns-clause-asks g c = c.finish_rest-finish.ensures.asks
