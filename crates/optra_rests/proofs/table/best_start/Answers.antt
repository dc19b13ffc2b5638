-- One more start.
use Rattle.std.proofs.Common.{arith, subst, sym, ap, Option, None, ℤ, ◌+◌}
use Rattle.optra_bid.specs.declared.Window.{Window}
use Rattle.optra_rests.specs.Starts.{IsBestStart, IsBefore}
use Rattle.optra_rests.proofs.StartLemmas.{starts_begin, starts_push, starts_all}
use Rattle.optra_rests.proofs.table.best_start.Goals as goal

pub loop-minute-init : goal.loop-minute-init
loop-minute-init g c =
    let w = g.W.Weighing.weights c.args.weighing.now in
    subst (λ (window : Window). IsBestStart w c.args.net.now c.args.bid.now (IsBefore window.from) None) (sym c.departures-window.ensures.window) (starts_begin w c.args.net.now c.args.bid.now)

pub loop-minute-preserved : goal.loop-minute-preserved
loop-minute-preserved g c =
    let w = g.W.Weighing.weights c.args.weighing.now in
    subst (λ (o : Option ℤ). IsBestStart w c.args.net.now c.args.bid.now (IsBefore (c.loop-minute.minute + 1)) o) (sym c.greater-best.ensures)
    (starts_push w c.args.net.now c.args.bid.now c.loop-minute.minute c.loop-minute.best c.start_walk-walk.result c.loop-minute.invariant c.start_walk-walk.ensures)

pub returns : goal.returns
returns g c =
    let e = ap (λ (window : Window). window.to) c.departures-window.ensures.window in
    let all = starts_all (g.W.Weighing.weights c.args.weighing.now) c.args.net.now c.args.bid.now c.loop-minute.minute c.loop-minute.best (omega arith) c.loop-minute.invariant in
    record { best = all; size = c.loop-minute.invariant.size }

pub start_walk-walk-requires-clause-weights : goal.start_walk-walk-requires-clause-weights
start_walk-walk-requires-clause-weights g c = c.requires.weights

pub start_walk-walk-requires-clause-filled : goal.start_walk-walk-requires-clause-filled
start_walk-walk-requires-clause-filled g c = c.requires.filled
