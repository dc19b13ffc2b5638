-- The places of the spot from this one on are filled.
use Rattle.std.proofs.Common.{◌≡◌, ◌+◌, ◌-◌, ◌≤◌}
use Rattle.optra_rests.specs.Asks.{AreAsked}
use Rattle.optra_rests.specs.Places.{spot_at}
use Rattle.optra_rests.specs.Tables.{IsFilled}
use Rattle.optra_rests.proofs.table.fill_spot.Given as goal

abbrev pub invariant-slots : goal.invariant-slots
invariant-slots g l = record {
  filled : IsFilled (g.W.Weighing.weights l.weighing) l.net l.bid l.table (spot_at l.table.layout (l.minute - l.table.layout.first) l.station.0 + l.left);
  asks : AreAsked (g.W.Weighing.weights l.weighing) l.asks;
  few : l.left ≤ l.table.layout.slots;
  layout : l.table.layout ≡ l.initial.table.layout;
  reach : l.table.reach ≡ l.initial.table.reach;
}

abbrev pub decreases-slots : goal.decreases-slots
decreases-slots g l = l.left
