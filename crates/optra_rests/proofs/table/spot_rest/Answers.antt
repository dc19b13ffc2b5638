use Rattle.std.proofs.Common.{arith}
use Rattle.optra_rests.proofs.BoolLemmas.{not_both}
use Rattle.optra_rests.proofs.FillLemmas.{ahead_rest}
use Rattle.optra_rests.proofs.table.spot_rest.Goals as goal

pub is_ahead-requires-clause-done : goal.is_ahead-requires-clause-done
is_ahead-requires-clause-done g c =
    let slots = c.requires.ready.setting.laid.slots in
    let done = c.requires.ready.placed.done in
    omega (arith, slots, done)

pub is_ahead-requires-clause-station : goal.is_ahead-requires-clause-station
is_ahead-requires-clause-station g c =
    let stations = c.requires.ready.setting.laid.stations in
    let station = c.requires.ready.placed.station in
    omega (arith, stations, station)

pub returns-then-not-is_ahead-clause-best : goal.returns-then-not-is_ahead-clause-best
returns-then-not-is_ahead-clause-best g c =
    let w = g.W.Weighing.weights c.args.weighing.now in
    let ready = c.requires.ready in
    let slots = ready.setting.laid.slots in
    let done = ready.placed.done in
    ahead_rest w c.args.net.now c.args.bid.now c.args.table.now.reach c.args.state ready.reach (omega (arith, slots, done)) (λ h. not_both c.is_ahead.result c.if-not-is_ahead.true (c.is_ahead.ensures.1 h))

pub is_ahead-requires-clause-ahead : goal.is_ahead-requires-clause-ahead
is_ahead-requires-clause-ahead g c = c.requires.ready.reach.ahead

pub state_rest-requires-clause-asks : goal.state_rest-requires-clause-asks
state_rest-requires-clause-asks g c = c.requires.asks

pub state_rest-requires-clause-weights : goal.state_rest-requires-clause-weights
state_rest-requires-clause-weights g c = c.requires.weights

pub state_rest-requires-clause-ready : goal.state_rest-requires-clause-ready
state_rest-requires-clause-ready g c = c.requires.ready

pub returns-clause-best : goal.returns-clause-best
returns-clause-best g c = c.state_rest.ensures.best

pub returns-clause-asks : goal.returns-clause-asks
returns-clause-asks g c = c.state_rest.ensures.asks

pub returns-then-not-is_ahead-clause-asks : goal.returns-then-not-is_ahead-clause-asks
returns-then-not-is_ahead-clause-asks g c = c.requires.asks
