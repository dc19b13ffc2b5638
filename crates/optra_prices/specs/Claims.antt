-- What decisions use of rows, by the numbers of rows.
use Rattle.std.specs.Prelude.{◌≡◌, ℕ, ◌<◌, ◌++◌, ◌∷◌, [], true, false, List, sum_by, Option, None, Some, slice_get}
use Rattle.std.specs.List.{AllZip}
use Rattle.std.specs.Option.{option_map_or}
use Rattle.optra_bid.specs.declared.bids.Bid.{Bid}
use Rattle.optra_walk.specs.Families.{Rows}
use Rattle.optra_node.specs.declared.Decision.{Decision}
use Rattle.optra_node.specs.Nodes.{yes_uses}
use Rattle.optra_prices.specs.Uses.{touch_uses}
use Rattle.optra_prices.specs.declared.claims.Claim.{Claim}
use Rattle.optra_prices.specs.declared.touch.Touch.{Touch}

-- so much is claimed of each row that has a number; each row that is used has one where the claim says so
pub record Claims {R : Type 0} (numbered : List R) (uses : R → ℕ) (claim : Claim) : Type 0 where
  pub uses_are : (n : ℕ) (row : R) → slice_get numbered n ≡ Some row → touch_uses claim.touches.items n ≡ uses row
  pub whole_is : claim.whole ≡ true → (row : R) → 0 < uses row → (n : ℕ) × (slice_get numbered n ≡ Some row)

-- the claim is that of the decision
abbrev pub IsClaim : {R : Type 0} → Rows R → List Bid → List R → Decision → Claim → Type 0
IsClaim rows bids numbered d claim = Claims numbered (λ row. yes_uses rows bids row d) claim

-- the claims are those of the decisions
abbrev pub AreClaims : {R : Type 0} → Rows R → List Bid → List R → List Decision → List Claim → Type 0
AreClaims rows bids numbered decisions claims = AllZip (IsClaim rows bids numbered) decisions claims

-- the claim has the touch of the number, where there is one, and else is not whole
abbrev pub ClaimsMore : Option ℕ → ℕ → Claim → Claim → Type 0
ClaimsMore (Some number) uses old new = (new.touches.items ≡ old.touches.items ++ record { row = number; uses = uses } ∷ []) × (new.whole ≡ old.whole)
ClaimsMore None uses old new = (new.touches.items ≡ old.touches.items) × (new.whole ≡ false)

-- how much the claims use of the row with number n
abbrev pub claim_uses : List Claim → ℕ → ℕ
claim_uses claims n = sum_by (λ claim. touch_uses claim.touches.items n) claims

-- what the claim at a place touches
abbrev pub touches_at : List Claim → ℕ → List Touch
touches_at claims place = option_map_or (λ claim. claim.touches.items) (slice_get claims place) []

-- how much the claims at the places use of the row with number n
abbrev pub placed_uses : List Claim → List ℕ → ℕ → ℕ
placed_uses claims places n = sum_by (λ place. touch_uses (touches_at claims place) n) places
