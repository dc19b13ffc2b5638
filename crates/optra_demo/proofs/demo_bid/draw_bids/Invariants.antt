use Rattle.std.proofs.Common.{◌≡◌, ◌*◌}
use Rattle.std.specs.Prelude.{All}
use Rattle.optra_demo.specs.Bids.{bids_from}
use Rattle.optra_demo.specs.Draws.{after}
use Rattle.optra_demo.specs.Ranges.{IsInRange}
use Rattle.optra_demo.proofs.demo_bid.draw_bids.Given as goal

abbrev pub invariant-bids : goal.invariant-bids
invariant-bids l = (l.bids.items ≡ bids_from l.stations l.initial.draws l.k) × (l.draws ≡ after l.initial.draws (7 * l.k)) × All (IsInRange l.stations) l.bids.items
