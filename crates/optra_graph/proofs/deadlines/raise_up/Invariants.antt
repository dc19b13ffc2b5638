-- While none has changed, the tracks so far keep the deadlines of their tails.
use Rattle.std.proofs.Common.{◌≡◌, ◌<◌, false}
use Rattle.optra_network.specs.declared.TrackId.{TrackId}
use Rattle.optra_graph.specs.Deadlines.{AreBounded, IsLeftTooLate}
use Rattle.optra_graph.proofs.deadlines.raise_up.Given as goal

abbrev pub invariant-loop-track : goal.invariant-loop-track
invariant-loop-track l = record {
  bounded : AreBounded l.net l.bid.path l.target l.deadlines;
  done : l.changed ≡ false → (t : TrackId) → t.0 < l.track → IsLeftTooLate l.net l.bid.path l.target l.deadlines t;
}
