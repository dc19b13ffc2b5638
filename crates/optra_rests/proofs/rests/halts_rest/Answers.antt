-- A halt for each dwell in the range of the next stop, ascending.
use Rattle.std.proofs.Common.{arith, subst, sym, Option, ℤ, ◌+◌}
use Rattle.optra_rests.specs.Rests.{IsBestRest}
use Rattle.optra_rests.specs.Ways.{IsHaltBelow, IsHaltBy}
use Rattle.optra_rests.proofs.MoveLemmas.{stop_within, halt_no_stop, halt_none, halt_start, halt_push, halt_end, halt_move}
use Rattle.optra_rests.proofs.rests.halts_rest.Goals as goal

pub loop-dwell-init : goal.loop-dwell-init
loop-dwell-init g c = record {
  best = halt_start (g.W.Weighing.weights c.args.weighing.now) c.args.net.now c.args.bid.now c.args.table.now c.args.way.from c.requires.ready c.args.way c.requires.way c.requires.weights c.in_ok-stop.stop (sym c.in_ok-stop.ensures);
  asks = c.requires.asks;
}

pub halt_rest-rest-requires-clause-halt : goal.halt_rest-rest-requires-clause-halt
halt_rest-rest-requires-clause-halt g c =
    let fits = c.may_halt.ensures.0 c.if-not-may_halt.false in
    halt_move c.args.net.now c.args.bid.now.path c.args.way.from c.args.way c.requires.way c.loop-dwell.dwell c.in_ok-stop.stop (sym c.in_ok-stop.ensures) fits.0 fits.1 fits.2 (omega arith) (omega arith)

pub loop-dwell-preserved : goal.loop-dwell-preserved
loop-dwell-preserved g c =
    let w = g.W.Weighing.weights c.args.weighing.now in
    record {
      best = subst (λ (o : Option ℤ). IsBestRest w c.args.net.now c.args.bid.now c.args.way.from (IsHaltBelow c.args.way.from c.args.way.track (c.loop-dwell.dwell + 1)) o) (sym c.greater-best.ensures)
          (halt_push w c.args.net.now c.args.bid.now c.args.table.now c.args.way.from c.requires.ready c.args.way c.requires.way c.requires.weights c.loop-dwell.dwell c.loop-dwell.best c.halt_rest-rest.result c.loop-dwell.invariant.best c.halt_rest-rest.ensures.best);
      asks = c.halt_rest-rest.ensures.asks;
    }

pub returns-clause-best : goal.returns-clause-best
returns-clause-best g c = halt_end (g.W.Weighing.weights c.args.weighing.now) c.args.net.now c.args.bid.now c.args.table.now c.args.way.from c.requires.ready c.args.way c.requires.way c.requires.weights
    c.in_ok-stop.stop c.loop-dwell.dwell c.loop-dwell.best (sym c.in_ok-stop.ensures) (omega arith) c.loop-dwell.invariant.best

pub returns-in_err-stop-clause-best : goal.returns-in_err-stop-clause-best
returns-in_err-stop-clause-best g c =
    let w = g.W.Weighing.weights c.args.weighing.now in
    subst (IsBestRest w c.args.net.now c.args.bid.now c.args.way.from (IsHaltBy c.args.way.from c.args.way.track)) (sym c.from_residual.ensures)
    (halt_no_stop w c.args.net.now c.args.bid.now c.args.table.now c.args.way.from c.requires.ready c.args.way c.requires.way c.requires.weights (sym c.in_err-stop.ensures))

pub returns-then-not-may_halt-clause-best : goal.returns-then-not-may_halt-clause-best
returns-then-not-may_halt-clause-best g c = halt_none (g.W.Weighing.weights c.args.weighing.now) c.args.net.now c.args.bid.now c.args.table.now c.args.way.from c.requires.ready c.args.way c.requires.way c.requires.weights
    c.in_ok-stop.stop (sym c.in_ok-stop.ensures) (λ h. let t = c.may_halt.ensures.1 h in cc)

pub halt_rest-rest-requires-clause-asks : goal.halt_rest-rest-requires-clause-asks
halt_rest-rest-requires-clause-asks g c = c.loop-dwell.invariant.asks

pub halt_rest-rest-requires-clause-weights : goal.halt_rest-rest-requires-clause-weights
halt_rest-rest-requires-clause-weights g c = c.requires.weights

pub halt_rest-rest-requires-clause-ready : goal.halt_rest-rest-requires-clause-ready
halt_rest-rest-requires-clause-ready g c = c.requires.ready

pub halt_rest-rest-requires-clause-way : goal.halt_rest-rest-requires-clause-way
halt_rest-rest-requires-clause-way g c = c.requires.way

pub returns-clause-asks : goal.returns-clause-asks
returns-clause-asks g c = c.loop-dwell.invariant.asks

pub returns-in_err-stop-clause-asks : goal.returns-in_err-stop-clause-asks
returns-in_err-stop-clause-asks g c = c.requires.asks

pub returns-then-not-may_halt-clause-asks : goal.returns-then-not-may_halt-clause-asks
returns-then-not-may_halt-clause-asks g c = c.requires.asks

pub overflow_add-dwell-end : goal.overflow_add-dwell-end
overflow_add-dwell-end g c =
    let stop = stop_within c.args.bid.now.path.stops c.args.way.from.done c.in_ok-stop.stop c.requires.ready.setting.stops (sym c.in_ok-stop.ensures) in
    let most = stop.dwell_max in
    omega (arith, most)

pub loop-dwell-smaller : goal.loop-dwell-smaller
loop-dwell-smaller g c = omega (arith, c.loop-dwell-test.true)
