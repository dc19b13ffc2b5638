-- The stations from this one on are filled.
use Rattle.std.proofs.Common.{◌≡◌, ◌-◌, ◌≤◌}
use Rattle.optra_rests.specs.Asks.{AreAsked}
use Rattle.optra_rests.specs.Places.{spot_at}
use Rattle.optra_rests.specs.Tables.{IsFilled}
use Rattle.optra_rests.proofs.table.fill_minute.Given as goal

abbrev pub invariant-stations : goal.invariant-stations
invariant-stations g l = record {
  filled : IsFilled (g.W.Weighing.weights l.weighing) l.net l.bid l.table (spot_at l.table.layout (l.minute - l.table.layout.first) l.left);
  asks : AreAsked (g.W.Weighing.weights l.weighing) l.asks;
  few : l.left ≤ l.table.layout.stations;
  layout : l.table.layout ≡ l.initial.table.layout;
}

abbrev pub decreases-stations : goal.decreases-stations
decreases-stations g l = l.left
