-- A wait for each dwell, ascending.
use Rattle.std.proofs.Common.{arith, subst, sym, Option, ℤ, ◌+◌}
use Rattle.optra_rests.specs.Rests.{IsBestRest}
use Rattle.optra_rests.specs.Ways.{IsWaitBelow}
use Rattle.optra_rests.proofs.MoveLemmas.{wait_start, wait_push, wait_end, wait_move}
use Rattle.optra_rests.proofs.rests.waits_rest.Goals as goal

pub loop-dwell-init : goal.loop-dwell-init
loop-dwell-init g c = record {
  best = wait_start (g.W.Weighing.weights c.args.weighing.now) c.args.net.now c.args.bid.now c.args.table.now c.args.way.from c.requires.ready c.args.way c.requires.way c.requires.weights;
  asks = c.requires.asks;
}

pub wait_rest-rest-requires-clause-wait : goal.wait_rest-rest-requires-clause-wait
wait_rest-rest-requires-clause-wait g c = wait_move c.args.net.now c.args.bid.now.path c.args.way.from c.args.way c.requires.way c.loop-dwell.dwell (omega arith) (omega arith)

pub loop-dwell-preserved : goal.loop-dwell-preserved
loop-dwell-preserved g c =
    let w = g.W.Weighing.weights c.args.weighing.now in
    record {
      best = subst (λ (o : Option ℤ). IsBestRest w c.args.net.now c.args.bid.now c.args.way.from (IsWaitBelow c.args.way.from c.args.way.track (c.loop-dwell.dwell + 1)) o) (sym c.greater-best.ensures)
          (wait_push w c.args.net.now c.args.bid.now c.args.table.now c.args.way.from c.requires.ready c.args.way c.requires.way c.requires.weights c.loop-dwell.dwell c.loop-dwell.best c.wait_rest-rest.result c.loop-dwell.invariant.best c.wait_rest-rest.ensures.best);
      asks = c.wait_rest-rest.ensures.asks;
    }

pub returns-clause-best : goal.returns-clause-best
returns-clause-best g c = wait_end (g.W.Weighing.weights c.args.weighing.now) c.args.net.now c.args.bid.now c.args.table.now c.args.way.from c.requires.ready c.args.way c.requires.way c.requires.weights c.loop-dwell.dwell c.loop-dwell.best (omega arith) c.loop-dwell.invariant.best

pub wait_rest-rest-requires-clause-asks : goal.wait_rest-rest-requires-clause-asks
wait_rest-rest-requires-clause-asks g c = c.loop-dwell.invariant.asks

pub wait_rest-rest-requires-clause-weights : goal.wait_rest-rest-requires-clause-weights
wait_rest-rest-requires-clause-weights g c = c.requires.weights

pub wait_rest-rest-requires-clause-ready : goal.wait_rest-rest-requires-clause-ready
wait_rest-rest-requires-clause-ready g c = c.requires.ready

pub wait_rest-rest-requires-clause-way : goal.wait_rest-rest-requires-clause-way
wait_rest-rest-requires-clause-way g c = c.requires.way

pub returns-clause-asks : goal.returns-clause-asks
returns-clause-asks g c = c.loop-dwell.invariant.asks
