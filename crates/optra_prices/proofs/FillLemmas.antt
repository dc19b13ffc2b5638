-- What the room tells of the rows that yes legs use.
use Rattle.std.proofs.Common.{◌≡◌, ℕ, ◌<◌, Bool, cond, List, [], ◌∷◌, get_or, sum_by, Some, slice_get, ap, subst, arith, inl, inr}
use Rattle.std.specs.Prelude.{All}
use Rattle.std.proofs.lemmas.Bool.{cases_lt}
use Rattle.std.proofs.lemmas.Bool.Decides.{eqb_tells}
use Rattle.std.proofs.lemmas.List.Elements.{All-nil, All-cons, All-head, All-tail}
use Rattle.std.proofs.lemmas.List.Sums.{sum_by-cons}
use Rattle.std.proofs.lemmas.Option.{get_or_from_slice_get}
use Rattle.optra_bid.specs.declared.bids.Bid.{Bid}
use Rattle.optra_walk.specs.Families.{Rows}
use Rattle.optra_node.specs.declared.Decision.{Decision}
use Rattle.optra_node.specs.Nodes.{IsOverfull, yes_load, yes_uses}
use Rattle.optra_prices.specs.Claims.{IsClaim, AreClaims}
use Rattle.optra_prices.specs.Rooms.{IsRoom, IsNumberWithin, IsClaimWithin}
use Rattle.optra_prices.specs.Uses.{touch_use, touch_uses}
use Rattle.optra_prices.specs.declared.claims.Claim.{Claim}
use Rattle.optra_prices.specs.declared.touch.Touch.{Touch}
use Rattle.optra_prices.specs.declared.rooms.Room.{Room}

-- where something is used in all, one of the parts uses something
pub some_part : {X : Type 0} (f : X → ℕ) (Q : Type 0) (xs : List X) → All (λ x. 0 < f x → Q) xs → 0 < sum_by f xs → Q
some_part f Q [] all some = absurd (omega (arith, some))
some_part f Q (x ∷ xs) all some = elim (cases_lt 0 (f x)) as (λ _. Q) [
  | inl here ↦ All-head (λ y. 0 < f y → Q) x xs all here
  | inr none ↦ some_part f Q xs (All-tail (λ y. 0 < f y → Q) x xs all) (let c = sum_by-cons f x xs in omega (arith, some, none, c))
]

-- where touches use a row, and no more is used of each touched row than there is, that is so of the row
pub touch_within : (Q : ℕ → Type 0) (touches : List Touch) (n : ℕ) → All (λ touch. Q touch.row) touches → 0 < touch_uses touches n → Q n
touch_within Q touches n all some = some_part (λ touch. touch_use touch n) (Q n) touches (λ k d l used. by (get_or touches k d) (all k d l) used) some
  where
    by : (touch : Touch) → Q touch.row → 0 < touch_use touch n → Q n
    by touch q used = elim (eqb_tells touch.row n) as (λ _. Q n) [
      | inl (test, same) ↦ subst Q same q
      | inr (test, other) ↦ let z = ap (λ (b : Bool). cond b touch.uses 0) test in absurd (omega (arith, used, z))
    ]

module _ {R : Type 0} (rows : Rows R) (bids : List Bid) (numbered : List R) (room : Room) where
  -- the row has a number, and no more is used of it than there is
  abbrev IsWithinAt : R → Type 0
  IsWithinAt row = (n : ℕ) × (slice_get numbered n ≡ Some row) × IsNumberWithin room n

  decision_within : (d : Decision) (claim : Claim) → IsClaim rows bids numbered d claim → IsClaimWithin room claim → (row : R) → 0 < yes_uses rows bids row d → IsWithinAt row
  decision_within d claim is within row some =
      let at = is.whole_is within.whole row some in
      let u = is.uses_are at.0 row at.1 in
      (at.0, at.1, touch_within (IsNumberWithin room) claim.touches.items at.0 within.within (omega (arith, u, some)))

  decisions_within : (node : List Decision) (claims : List Claim) → AreClaims rows bids numbered node claims → All (IsClaimWithin room) claims → (row : R) → All (λ d. 0 < yes_uses rows bids row d → IsWithinAt row) node
  decisions_within [] claims are all row = All-nil (λ d. 0 < yes_uses rows bids row d → IsWithinAt row)
  decisions_within (d ∷ node) [] are all row = absurd are
  decisions_within (d ∷ node) (claim ∷ claims) are all row =
      All-cons (λ d. 0 < yes_uses rows bids row d → IsWithinAt row) d node
      (decision_within d claim are.0 (All-head (IsClaimWithin room) claim claims all) row)
      (decisions_within node claims are.1 (All-tail (IsClaimWithin room) claim claims all) row)

  -- where all that is claimed is within, no row is overfull
  pub none_overfull : (node : List Decision) (claims : List Claim) → AreClaims rows bids numbered node claims → IsRoom rows numbered (yes_load rows bids node) room → All (IsClaimWithin room) claims → (row : R) → IsOverfull rows bids node row → ⊥
  none_overfull node claims are is all row over =
      let a = over.above in
      let w = some_part (yes_uses rows bids row) (IsWithinAt row) node (decisions_within node claims are all row) (omega (arith, a)) in
      let u : get_or room.loads.uses w.0 0 ≡ yes_load rows bids node row = get_or_from_slice_get room.loads.uses w.0 (yes_load rows bids node row) 0 (is.uses_are w.0 row w.1) in
      let c : get_or room.loads.capacities w.0 0 ≡ rows.capacity row = get_or_from_slice_get room.loads.capacities w.0 (rows.capacity row) 0 (is.capacities_are w.0 row w.1) in
      let fits = w.2 in
      omega (arith, a, u, c, fits)
