-- What is earned so far, with what the bids that are left earn, is the whole; each bid so far earned or lost little.
use Rattle.std.proofs.Common.{◌≡◌, ◌*◌, drop}
use Rattle.std.specs.Prelude.{pos, ◌+ℤ◌, ◌-ℤ◌, ◌≤ℤ◌}
use Rattle.optra_walk.specs.Choices.{revenue_of}
use Rattle.optra_walk.proofs.earning.revenue.Given as goal

abbrev pub invariant-bids : goal.invariant-bids
invariant-bids l =
    (l.total +ℤ revenue_of l.net (drop l.i l.bids) (drop l.i l.walks) ≡ revenue_of l.net l.bids l.walks)
    × ((pos 0 -ℤ pos (20000000000 * l.i)) ≤ℤ l.total) × (l.total ≤ℤ pos (1000000000 * l.i))
