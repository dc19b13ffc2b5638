-- The tracks so far either lowered a number, or they all follow.
use Rattle.std.proofs.Common.{◌≡◌, ◌≤◌, ◌<◌, sum, ℕ, false, true, slice_index}
use Rattle.optra_network.specs.Net.{track_id}
use Rattle.optra_rests.specs.Reaches.{IsLeastAlong}
use Rattle.optra_rests.proofs.reach.lower_on.Given as goal

abbrev pub invariant-loop-n : goal.invariant-loop-n
invariant-loop-n l = record {
  fewer : l.lowered ≡ true → sum l.least < sum l.initial.least;
  no_more : (k : ℕ) → slice_index l.least k ≤ slice_index l.initial.least k;
  sums : sum l.least ≤ sum l.initial.least;
  same : l.lowered ≡ false → l.least ≡ l.initial.least;
  stays : l.lowered ≡ false → (k : ℕ) → k < l.n → IsLeastAlong l.net l.kind l.back l.least (track_id k);
}
