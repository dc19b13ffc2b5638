use Rattle.std.proofs.Common.{ℕ, ◌<◌, get_or}
use Rattle.optra_prices.specs.Rooms.{IsClaimWithin}
use Rattle.optra_prices.specs.declared.claims.Claim.{Claim}
use Rattle.optra_prices.proofs.claims.are_within.Given as goal

abbrev pub invariant-loop-claim : goal.invariant-loop-claim
invariant-loop-claim l = (k : ℕ) (d : Claim) → k < l.claim-index → IsClaimWithin l.room (get_or l.claims k d)
