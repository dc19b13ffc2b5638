use Rattle.std.proofs.Common.{◌≡◌, take}
use Rattle.optra_prices.specs.Courses.{listed}
use Rattle.optra_prices.specs.Listings.{rows_at}
use Rattle.optra_prices.proofs.listing.active_prices.Given as goal

abbrev pub invariant-loop-k : goal.invariant-loop-k
invariant-loop-k g l = l.entries.items ≡ listed (rows_at l.numbered.items (take l.k l.levels.active.items)) l.levels.prices.items
