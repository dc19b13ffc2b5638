-- The minutes so far are counted.
use Rattle.std.specs.Prelude.{◌≡◌, ℕ, ◌+◌, ◌<◌, ◌&&◌, nat_le, nat_lt, List, length, slice_index_or, if◌then◌else◌}
use Rattle.optra_audit.proofs.minute_counts.add_stay.Given as goal

pub record CountedTo (from minute : ℕ) (old new : List ℕ) : Type 0 where
  pub long : length new ≡ 2880
  pub are : (m : ℕ) → m < 2880 → slice_index_or new m 0 ≡ slice_index_or old m 0 + (if nat_le from m && nat_lt m minute then 1 else 0)

abbrev pub invariant-minutes : goal.invariant-minutes
invariant-minutes l = CountedTo l.from l.minute l.fn.counts l.counts
