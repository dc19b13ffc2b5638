use Rattle.std.proofs.Common.{ℕ, refl, ap, ◌∙◌, arith, slice_set}
use Rattle.std.proofs.lemmas.Option.{IfSome_then}
use Rattle.optra_rests.specs.Tables.{rests_of}
use Rattle.optra_rests.proofs.BoolLemmas.{not_both}
use Rattle.optra_rests.proofs.FillLemmas.{filled_ready, filled_more, filled_past}
use Rattle.optra_rests.proofs.table.fill_place.Goals as goal

pub was_time-requires-clause-done : goal.was_time-requires-clause-done
was_time-requires-clause-done g c =
    let slots = c.requires.filled.setting.laid.slots in
    let done = c.requires.placed.done in
    omega (arith, slots, done)

pub was_time-requires-clause-station : goal.was_time-requires-clause-station
was_time-requires-clause-station g c =
    let stations = c.requires.filled.setting.laid.stations in
    let station = c.requires.placed.station in
    omega (arith, stations, station)

pub returns-then-not-was_time-clause-filled : goal.returns-then-not-was_time-clause-filled
returns-then-not-was_time-clause-filled g c =
    filled_past (g.W.Weighing.weights c.args.weighing.now) c.args.net.now c.args.bid.now c.args.table.now c.args.state c.requires.placed
    (λ h. not_both c.was_time.result c.if-not-was_time.true (c.was_time.ensures.1 h)) c.requires.filled

pub spot_rest-rest-requires-clause-ready : goal.spot_rest-rest-requires-clause-ready
spot_rest-rest-requires-clause-ready g c =
    filled_ready (g.W.Weighing.weights c.args.weighing.now) c.args.net.now c.args.bid.now c.args.table.now c.args.state c.requires.placed
    c.requires.filled c.requires.reached (c.was_time.ensures.0 c.if-not-was_time.false)

pub put-requires-clause-rest : goal.put-requires-clause-rest
put-requires-clause-rest g c = IfSome_then c.spot_rest-rest.result c.spot_rest-rest.ensures.best.size (λ n size. size.1)

pub returns-clause-filled : goal.returns-clause-filled
returns-clause-filled g c =
    let table = c.args.table.now in
    let rests = c.put.ensures.rests ∙ ap (λ (n : ℕ). slice_set (rests_of table) n c.spot_rest-rest.result) c.place.ensures.value in
    filled_more (g.W.Weighing.weights c.args.weighing.now) c.args.net.now c.args.bid.now table c.put.new.self c.args.state c.spot_rest-rest.result c.requires.placed
    c.requires.filled c.spot_rest-rest.ensures.best rests c.put.ensures.layout c.put.ensures.reach

pub spot_rest-rest-requires-clause-asks : goal.spot_rest-rest-requires-clause-asks
spot_rest-rest-requires-clause-asks g c = c.requires.asks

pub spot_rest-rest-requires-clause-weights : goal.spot_rest-rest-requires-clause-weights
spot_rest-rest-requires-clause-weights g c = c.requires.weights

pub returns-clause-asks : goal.returns-clause-asks
returns-clause-asks g c = c.spot_rest-rest.ensures.asks

pub returns-then-not-was_time-clause-asks : goal.returns-then-not-was_time-clause-asks
returns-then-not-was_time-clause-asks g c = c.requires.asks

pub was_time-requires-clause-behind : goal.was_time-requires-clause-behind
was_time-requires-clause-behind g c = c.requires.filled.reach.behind

pub place-requires-clause-small : goal.place-requires-clause-small
place-requires-clause-small g c = c.requires.filled.is_table.small

pub place-requires-clause-placed : goal.place-requires-clause-placed
place-requires-clause-placed g c = c.requires.placed

pub returns-clause-layout : goal.returns-clause-layout
returns-clause-layout g c = c.put.ensures.layout

pub returns-clause-reach : goal.returns-clause-reach
returns-clause-reach g c = c.put.ensures.reach

pub returns-then-not-was_time-clause-layout : goal.returns-then-not-was_time-clause-layout
returns-then-not-was_time-clause-layout g c = refl

pub returns-then-not-was_time-clause-reach : goal.returns-then-not-was_time-clause-reach
returns-then-not-was_time-clause-reach g c = refl
