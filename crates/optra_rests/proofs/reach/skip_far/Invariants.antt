-- For each number of the stations so far, how many are left without the last ones that are far.
use Rattle.std.proofs.Common.{◌≡◌, ◌+◌, ◌≤◌, ℕ, length, slice_index}
use Rattle.optra_rests.specs.Reaches.{IsWithoutFar}
use Rattle.optra_rests.proofs.reach.skip_far.Given as goal

abbrev pub invariant-stations : goal.invariant-stations
invariant-stations l = record {
  len : length l.skips.items ≡ l.station + 1;
  each : (count : ℕ) → count ≤ l.station → IsWithoutFar l.bid.path l.from_origin l.to_destination count (slice_index l.skips.items count);
  last : IsWithoutFar l.bid.path l.from_origin l.to_destination l.station l.near;
}
