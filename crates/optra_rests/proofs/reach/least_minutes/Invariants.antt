-- The station itself keeps at most the first minutes.
use Rattle.std.proofs.Common.{◌≡◌, ◌≤◌, sum, length, slice_index}
use Rattle.optra_rests.proofs.reach.least_minutes.Given as goal

abbrev pub invariant-passes : goal.invariant-passes
invariant-passes l = record {
  len : length l.least.items ≡ length l.net.stations;
  first : slice_index l.least.items l.fn.at.0 ≤ l.fn.start;
}

abbrev pub decreases-passes : goal.decreases-passes
decreases-passes l = sum l.least.items
