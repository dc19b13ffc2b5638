-- The best of the walks that start before the minute.
use Rattle.optra_rests.specs.Starts.{IsBestStart, IsBefore}
use Rattle.optra_rests.proofs.table.best_start.Given as goal

abbrev pub invariant-loop-minute : goal.invariant-loop-minute
invariant-loop-minute g l = IsBestStart (g.W.Weighing.weights l.weighing) l.net l.bid (IsBefore l.minute) l.best
