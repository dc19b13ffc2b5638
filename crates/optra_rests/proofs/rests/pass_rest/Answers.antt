-- The leg that passes, and the rest behind it.
use Rattle.std.proofs.Common.{arith, refl, pos}
use Rattle.optra_walk.specs.declared.Action.TheVariants.{Pass}
use Rattle.optra_rests.specs.Tables.{rest_at}
use Rattle.optra_walk.specs.Moves.{leg_by}
use Rattle.optra_rests.specs.Ways.{IsLegBy}
use Rattle.optra_rests.proofs.MoveLemmas.{after_pass, pass_later, pass_best, named_size, named_best}
use Rattle.optra_rests.proofs.AskLemmas.{leg_usable, track_asked}
use Rattle.optra_rests.proofs.rests.pass_rest.Goals as goal

pub begin_with-requires-clause-rest : goal.begin_with-requires-clause-rest
begin_with-requires-clause-rest g c =
    let w = g.W.Weighing.weights c.args.weighing.now in
    let net = c.args.net.now in
    let bid = c.args.bid.now in
    let after = after_pass net bid.path c.args.way.from c.args.way c.requires.way in
    let best = pass_later w net bid c.args.table.now c.args.way.from c.requires.ready c.args.way c.requires.way c.requires.weights in
    named_size (leg_by c.args.way.from c.args.way.track Pass) c.leg.result after (rest_at c.args.table.now after) c.rest-rest.result c.requires.way.pass_later best.1.size c.leg.ensures c.rest-rest.ensures

pub returns-clause-best : goal.returns-clause-best
returns-clause-best g c =
    let w = g.W.Weighing.weights c.args.weighing.now in
    let net = c.args.net.now in
    let bid = c.args.bid.now in
    let after = after_pass net bid.path c.args.way.from c.args.way c.requires.way in
    named_best w net bid c.args.way.from (IsLegBy c.args.way.from c.args.way.track Pass) (leg_by c.args.way.from c.args.way.track Pass) c.leg.result (pos 0) (pos 0) (rest_at c.args.table.now after) c.rest-rest.result
    c.begin_with.result c.leg.ensures refl c.rest-rest.ensures c.begin_with.ensures.value c.begin_with.ensures.size refl
    (pass_best w net bid c.args.table.now c.args.way.from c.requires.ready c.args.way c.requires.way c.requires.weights)

pub rest-rest-requires-clause-table : goal.rest-rest-requires-clause-table
rest-rest-requires-clause-table g c = c.requires.ready.is_table

pub begin_with-requires-clause-asks : goal.begin_with-requires-clause-asks
begin_with-requires-clause-asks g c = c.requires.asks

pub returns-clause-asks : goal.returns-clause-asks
returns-clause-asks g c = c.begin_with.ensures.asks

pub begin_with-requires-clause-usable : goal.begin_with-requires-clause-usable
begin_with-requires-clause-usable g c =
    leg_usable (g.W.Weighing.weights c.args.weighing.now) c.args.net.now c.args.bid.now c.args.table.now c.args.way.from c.requires.ready c.args.way c.requires.way c.requires.weights Pass (omega arith) c.leg.result c.leg.ensures

pub begin_with-requires-clause-track : goal.begin_with-requires-clause-track
begin_with-requires-clause-track g c =
    track_asked (g.W.Weighing.weights c.args.weighing.now) c.args.net.now c.args.bid.now c.args.table.now c.args.way.from c.requires.ready c.args.way c.requires.way c.requires.weights Pass c.leg.result c.leg.ensures _ c.requires.asks

pub rest-rest-requires-clause-placed : goal.rest-rest-requires-clause-placed
rest-rest-requires-clause-placed g c =
    (pass_later (g.W.Weighing.weights c.args.weighing.now) c.args.net.now c.args.bid.now c.args.table.now c.args.way.from c.requires.ready c.args.way c.requires.way c.requires.weights).0
