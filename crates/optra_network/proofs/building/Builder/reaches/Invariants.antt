use Rattle.std.proofs.Common.{All, take, length}
use Rattle.optra_network.specs.Tables.{HoldsPairs}
use Rattle.optra_network.proofs.CrossingLemmas.{IsTurned, cut_sum}
use Rattle.optra_network.proofs.building.Builder.reaches.Given as goal

abbrev pub invariant-loop-i : goal.invariant-loop-i
invariant-loop-i l = record {
  turned : All (IsTurned l.self.crossings) (take l.i l.self.crossings);
  cut : HoldsPairs (cut_sum l.self.crossings (take l.i l.self.crossings)) (length l.self.tracks) l.reaches.items;
}
