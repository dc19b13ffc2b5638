-- The leg that finishes, where the walk may end.
use Rattle.std.proofs.Common.{arith, refl, pos, Some, to_z, of_z, w64}
use Rattle.std.proofs.lemmas.Int.{ints}
use Rattle.optra_walk.specs.declared.Action.TheVariants.{Finish}
use Rattle.optra_walk.specs.Shares.{end_price}
use Rattle.optra_walk.specs.Moves.{leg_by}
use Rattle.optra_rests.specs.Ways.{IsLegBy}
use Rattle.optra_rests.proofs.MoveLemmas.{finish_none, finish_best, finish_move, named_best}
use Rattle.optra_rests.proofs.AskLemmas.{leg_usable, track_asked}
use Rattle.optra_rests.proofs.rests.finish_rest.Goals as goal

pub returns-then-not-may_finish-clause-best : goal.returns-then-not-may_finish-clause-best
returns-then-not-may_finish-clause-best g c =
    let w = g.W.Weighing.weights c.args.weighing.now in
    finish_none w c.args.net.now c.args.bid.now c.args.table.now c.args.way.from c.requires.ready c.args.way c.requires.way c.requires.weights (λ h. let t = c.may_finish.ensures.1 h in cc)

pub returns-clause-best : goal.returns-clause-best
returns-clause-best g c =
    let w = g.W.Weighing.weights c.args.weighing.now in
    let net = c.args.net.now in
    let bid = c.args.bid.now in
    let fits = c.may_finish.ensures.0 c.if-not-may_finish.false in
    named_best w net bid c.args.way.from (IsLegBy c.args.way.from c.args.way.track Finish) (leg_by c.args.way.from c.args.way.track Finish) c.leg-leg.result (end_price bid c.args.way.halt) (to_z w64 (of_z w64 c.end_price.result)) (Some (pos 0)) (Some (pos 0))
    c.begin_with.result c.leg-leg.ensures (let e = c.end_price.ensures.value in let a = c.end_price.ensures.range.0 in let b = c.end_price.ensures.range.1 in omega (arith, ints)) refl
    c.begin_with.ensures.value c.begin_with.ensures.size refl
    (finish_best w net bid c.args.table.now c.args.way.from c.requires.ready c.args.way c.requires.way c.requires.weights (finish_move net bid.path c.args.way.from c.args.way c.requires.way fits))

pub begin_with-requires-clause-asks : goal.begin_with-requires-clause-asks
begin_with-requires-clause-asks g c = c.requires.asks

pub returns-clause-asks : goal.returns-clause-asks
returns-clause-asks g c = c.begin_with.ensures.asks

pub returns-then-not-may_finish-clause-asks : goal.returns-then-not-may_finish-clause-asks
returns-then-not-may_finish-clause-asks g c = c.requires.asks

pub begin_with-requires-clause-usable : goal.begin_with-requires-clause-usable
begin_with-requires-clause-usable g c =
    leg_usable (g.W.Weighing.weights c.args.weighing.now) c.args.net.now c.args.bid.now c.args.table.now c.args.way.from c.requires.ready c.args.way c.requires.way c.requires.weights Finish (omega arith) c.leg-leg.result c.leg-leg.ensures

pub begin_with-requires-clause-track : goal.begin_with-requires-clause-track
begin_with-requires-clause-track g c =
    track_asked (g.W.Weighing.weights c.args.weighing.now) c.args.net.now c.args.bid.now c.args.table.now c.args.way.from c.requires.ready c.args.way c.requires.way c.requires.weights Finish c.leg-leg.result c.leg-leg.ensures _ c.requires.asks
