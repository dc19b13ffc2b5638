-- The way by the track, where the train may use it.
use Rattle.std.proofs.Common.{subst, sym, arith, Option, None, ℤ}
use Rattle.optra_network.specs.declared.TrackId.{TrackId}
use Rattle.optra_walk.specs.declared.state.State.{State}
use Rattle.optra_rests.specs.Rests.{IsBestRest}
use Rattle.optra_rests.specs.Ways.{IsOn, IsWay}
use Rattle.optra_rests.proofs.FillLemmas.{late_way}
use Rattle.optra_rests.proofs.TrackLemmas.{track_none}
use Rattle.optra_rests.proofs.rests.track_rest.Goals as goal

pub returns-in_err-way-clause-best : goal.returns-in_err-way-clause-best
returns-in_err-way-clause-best g c =
    let w = g.W.Weighing.weights c.args.weighing.now in
    subst (λ (o : Option ℤ). IsBestRest w c.args.net.now c.args.bid.now c.args.state (IsOn c.args.track) o) (sym c.from_residual.ensures)
    (track_none w c.args.net.now c.args.bid.now c.args.state c.args.track c.in_err-way.ensures)

pub is_late-requires-clause-head : goal.is_late-requires-clause-head
is_late-requires-clause-head g c =
    let way = c.in_ok-way.ensures in
    let n = c.requires.ready.setting.laid.stations in
    let h = way.2.station in
    omega (arith, n, h)

pub returns-then-is_late-clause-best : goal.returns-then-is_late-clause-best
returns-then-is_late-clause-best g c =
    let w = g.W.Weighing.weights c.args.weighing.now in
    let way = c.in_ok-way.ensures in
    let ready = c.requires.ready in
    let is = subst (λ (s : State). IsWay c.args.net.now c.args.bid.now.path s c.in_ok-way.way) (λ i. c.args.state) way.2 in
    let f = ready.setting.laid.first in
    let m = ready.setting.laid.minutes in
    let l = ready.placed.late in
    let e = ready.placed.early in
    subst (λ (t : TrackId). IsBestRest w c.args.net.now c.args.bid.now c.args.state (IsOn t) None) way.0
    (late_way w c.args.net.now c.args.bid.now c.args.table.now c.args.state c.in_ok-way.way ready.setting ready.reach is (omega (arith, f, m, l, e)) (c.is_late.ensures.pass c.if-is_late.true) (c.is_late.ensures.halt c.if-is_late.true))

pub find_way-requires-clause-tail : goal.find_way-requires-clause-tail
find_way-requires-clause-tail g c = c.requires.tail

pub is_late-requires-clause-table : goal.is_late-requires-clause-table
is_late-requires-clause-table g c = c.requires.ready.is_table

pub way_rest-requires-clause-asks : goal.way_rest-requires-clause-asks
way_rest-requires-clause-asks g c = c.requires.asks

pub way_rest-requires-clause-weights : goal.way_rest-requires-clause-weights
way_rest-requires-clause-weights g c = c.requires.weights

pub returns-clause-asks : goal.returns-clause-asks
returns-clause-asks g c = c.way_rest.ensures.asks

pub returns-in_err-way-clause-asks : goal.returns-in_err-way-clause-asks
returns-in_err-way-clause-asks g c = c.requires.asks

pub returns-then-is_late-clause-asks : goal.returns-then-is_late-clause-asks
returns-then-is_late-clause-asks g c = c.requires.asks
