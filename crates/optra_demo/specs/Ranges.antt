-- The ranges of what is drawn.
use Rattle.std.specs.Prelude.{ℕ, ◌+◌, ◌≤◌, ◌<◌}
use Rattle.optra_demo.specs.declared.demo_bid.DemoBid.{DemoBid}

-- the way lies between so many stations, and the minute and the base are small
pub record IsInRange (stations : ℕ) (bid : DemoBid) : Type 0 where
  pub some : 2 ≤ bid.tracks
  pub way : bid.offset + bid.tracks < stations
  pub bidder : bid.bidder ≤ 5
  pub early : 30 ≤ bid.depart
  pub late : bid.depart < 210
  pub base : bid.base < 22000

-- the minutes of a segment
abbrev pub IsSegment : ℕ → Type 0
IsSegment minutes = minutes ≤ 8
