-- While none has changed, the tracks so far keep the deadlines of their tails.
use Rattle.std.proofs.Common.{◌≡◌, ◌+◌, ◌≤◌, ◌<◌, false, length}
use Rattle.optra_network.specs.declared.TrackId.{TrackId}
use Rattle.optra_graph.specs.Deadlines.{AreBounded, IsLeftTooLate}
use Rattle.optra_graph.proofs.deadlines.raise_down.Given as goal

abbrev pub invariant-loop-passed : goal.invariant-loop-passed
invariant-loop-passed l = record {
  bounded : AreBounded l.net l.bid.path l.target l.deadlines;
  done : l.changed ≡ false → (t : TrackId) → t.0 < length l.net.tracks → length l.net.tracks ≤ t.0 + l.passed → IsLeftTooLate l.net l.bid.path l.target l.deadlines t;
}
