-- The minutes from this one on are filled.
use Rattle.std.proofs.Common.{◌≡◌, ◌≤◌}
use Rattle.optra_rests.specs.Asks.{AreAsked}
use Rattle.optra_rests.specs.Places.{spot_at}
use Rattle.optra_rests.specs.Tables.{IsFilled}
use Rattle.optra_rests.proofs.table.fill.Given as goal

abbrev pub invariant-minutes : goal.invariant-minutes
invariant-minutes g l = record {
  filled : IsFilled (g.W.Weighing.weights l.weighing) l.net l.bid l.table (spot_at l.table.layout l.left 0);
  asks : AreAsked (g.W.Weighing.weights l.weighing) l.asks;
  few : l.left ≤ l.table.layout.minutes;
  first : l.first ≡ l.table.layout.first;
}

abbrev pub decreases-minutes : goal.decreases-minutes
decreases-minutes g l = l.left
