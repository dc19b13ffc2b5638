-- The leg that waits, and the rest behind it.
use Rattle.std.proofs.Common.{arith, refl}
use Rattle.std.proofs.lemmas.Int.{ints}
use Rattle.optra_walk.specs.declared.Action.TheVariants.{Wait}
use Rattle.optra_walk.specs.Shares.{wait_price}
use Rattle.optra_rests.specs.Tables.{rest_at}
use Rattle.optra_walk.specs.Moves.{leg_by}
use Rattle.optra_rests.specs.Ways.{IsLegBy}
use Rattle.optra_rests.proofs.MoveLemmas.{after_wait, wait_few, wait_later, wait_best, named_size, named_best}
use Rattle.optra_rests.proofs.AskLemmas.{leg_usable, track_asked}
use Rattle.optra_rests.proofs.rests.wait_rest.Goals as goal

pub begin_with-requires-clause-rest : goal.begin_with-requires-clause-rest
begin_with-requires-clause-rest g c =
    let w = g.W.Weighing.weights c.args.weighing.now in
    let net = c.args.net.now in
    let bid = c.args.bid.now in
    let after = after_wait net bid.path c.args.way.from c.args.way c.requires.way c.args.dwell in
    let best = wait_later w net bid c.args.table.now c.args.way.from c.requires.ready c.args.way c.requires.way c.requires.weights c.args.dwell c.requires.wait in
    named_size (leg_by c.args.way.from c.args.way.track (Wait c.args.dwell)) c.leg-leg.result after (rest_at c.args.table.now after) c.rest-rest.result (let l = c.requires.way.halt_later in omega arith) best.1.size c.leg-leg.ensures c.rest-rest.ensures

pub returns-clause-best : goal.returns-clause-best
returns-clause-best g c =
    let w = g.W.Weighing.weights c.args.weighing.now in
    let net = c.args.net.now in
    let bid = c.args.bid.now in
    let after = after_wait net bid.path c.args.way.from c.args.way c.requires.way c.args.dwell in
    named_best w net bid c.args.way.from (IsLegBy c.args.way.from c.args.way.track (Wait c.args.dwell)) (leg_by c.args.way.from c.args.way.track (Wait c.args.dwell)) c.leg-leg.result (wait_price bid c.args.dwell) _ (rest_at c.args.table.now after) c.rest-rest.result
    c.begin_with.result c.leg-leg.ensures (let e = c.wait_price.ensures.value in let a = c.wait_price.ensures.range.0 in let b = c.wait_price.ensures.range.1 in omega (arith, ints)) c.rest-rest.ensures c.begin_with.ensures.value c.begin_with.ensures.size refl
    (wait_best w net bid c.args.table.now c.args.way.from c.requires.ready c.args.way c.requires.way c.requires.weights c.args.dwell c.requires.wait)

pub rest-rest-requires-clause-table : goal.rest-rest-requires-clause-table
rest-rest-requires-clause-table g c = c.requires.ready.is_table

pub begin_with-requires-clause-asks : goal.begin_with-requires-clause-asks
begin_with-requires-clause-asks g c = c.requires.asks

pub returns-clause-asks : goal.returns-clause-asks
returns-clause-asks g c = c.begin_with.ensures.asks

pub begin_with-requires-clause-usable : goal.begin_with-requires-clause-usable
begin_with-requires-clause-usable g c =
    leg_usable (g.W.Weighing.weights c.args.weighing.now) c.args.net.now c.args.bid.now c.args.table.now c.args.way.from c.requires.ready c.args.way c.requires.way c.requires.weights (Wait c.args.dwell) (wait_few (g.W.Weighing.weights c.args.weighing.now) c.args.net.now c.args.bid.now c.args.table.now c.args.way.from c.requires.ready c.args.way c.requires.way c.requires.weights c.args.dwell c.requires.wait) c.leg-leg.result c.leg-leg.ensures

pub begin_with-requires-clause-track : goal.begin_with-requires-clause-track
begin_with-requires-clause-track g c =
    track_asked (g.W.Weighing.weights c.args.weighing.now) c.args.net.now c.args.bid.now c.args.table.now c.args.way.from c.requires.ready c.args.way c.requires.way c.requires.weights (Wait c.args.dwell) c.leg-leg.result c.leg-leg.ensures _ c.requires.asks

pub rest-rest-requires-clause-placed : goal.rest-rest-requires-clause-placed
rest-rest-requires-clause-placed g c =
    (wait_later (g.W.Weighing.weights c.args.weighing.now) c.args.net.now c.args.bid.now c.args.table.now c.args.way.from c.requires.ready c.args.way c.requires.way c.requires.weights c.args.dwell c.requires.wait).0
