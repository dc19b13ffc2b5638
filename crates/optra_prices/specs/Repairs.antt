-- Repair: a choice that keeps the rule, made by letting the bids take walks one after the other.
use Rattle.std.specs.Prelude.{◌≡◌, ◌⊎◌, ℕ, ◌<◌, false, List, [], ◌∷◌, ◌++◌, map, length, Option, None, Some, slice_get, slice_set, unwrap_or, All, Contains}
use Rattle.std.specs.Prelude.{ℤ, pos, ◌≤ℤ◌, ◌<ℤ◌}
use Rattle.std.specs.List.{AllPairs}
use Rattle.std.specs.Ordering.{is_gt}
use Rattle.optra_network.specs.Net.{Net}
use Rattle.optra_network.specs.declared.TypeId.{TypeId}
use Rattle.optra_bid.specs.declared.bids.Bid.{Bid}
use Rattle.optra_walk.specs.declared.Leg.{Leg}
use Rattle.optra_walk.specs.Values.{value_of}
use Rattle.optra_walk.specs.Families.{Rows, Entry, FitRows, entries_of}
use Rattle.optra_walk.specs.Orders.{walk_cmp}
use Rattle.optra_node.specs.declared.Decision.{Decision}
use Rattle.optra_node.specs.Nodes.{IsAllowed}
use Rattle.optra_prices.specs.Replies.{Valuation}

-- the term where there is a reply, and 0 without one
abbrev pub term_with : Option (List Leg) → ℤ → ℤ
term_with None term = pos 0
term_with (Some legs) term = term

-- what a bid contributes to the dual value: its term, and 0 without a reply
abbrev pub contribution_of : Valuation → ℕ → ℤ
contribution_of v number = term_with (unwrap_or (slice_get v.replies number) None) (unwrap_or (slice_get v.terms number) (pos 0))

-- a bid that contributes more is taken before; of two that contribute the same, the one that stands before
abbrev pub IsTakenBefore : Valuation → ℕ → ℕ → Type 0
IsTakenBefore v a b = (contribution_of v b <ℤ contribution_of v a) ⊎ ((contribution_of v a ≡ contribution_of v b) × (a < b))

-- the positions of all bids, in the order in which the bids are taken
pub record IsTakingOrder (v : Valuation) (bids : ℕ) (order : List ℕ) : Type 0 where
  pub within : All (λ number. number < bids) order
  pub whole : (number : ℕ) → number < bids → Contains order number
  pub ordered : AllPairs (IsTakenBefore v) order

-- with the legs beside what is placed, no row is used above its capacity
abbrev pub FitBeside : {R : Type 0} → Rows R → List Entry → TypeId → List Leg → Type 0
FitBeside rows placed kind legs = FitRows rows (placed ++ map (λ leg. (kind, leg)) legs)

-- an allowed walk of which every leg, by itself, fits with what is placed
pub record IsPlaceable {R : Type 0} (net : Net) (rows : Rows R) (bids : List Bid) (node : List Decision) (placed : List Entry) (number : ℕ) (bid : Bid) (legs : List Leg) : Type 0 where
  pub allowed : IsAllowed net rows bids node number bid legs
  pub each_fits : All (λ leg. FitBeside rows placed bid.path.kind (leg ∷ [])) legs

-- of the placeable walks of the bid, the first one in walk order among those of greatest value
pub record IsFirstWorthiest {R : Type 0} (net : Net) (rows : Rows R) (bids : List Bid) (node : List Decision) (placed : List Entry) (number : ℕ) (bid : Bid) (legs : List Leg) : Type 0 where
  pub placeable : IsPlaceable net rows bids node placed number bid legs
  pub greatest : (other : List Leg) → IsPlaceable net rows bids node placed number bid other → value_of net bid.path bid.money other ≤ℤ value_of net bid.path bid.money legs
  pub first : (other : List Leg) → IsPlaceable net rows bids node placed number bid other → value_of net bid.path bid.money other ≡ value_of net bid.path bid.money legs
      → is_gt (walk_cmp legs other) ≡ false

-- the walk is kept: it is worth more than 0, and as a whole it fits
pub record IsKept {R : Type 0} (net : Net) (rows : Rows R) (placed : List Entry) (bid : Bid) (legs : List Leg) : Type 0 where
  pub earns : pos 0 <ℤ value_of net bid.path bid.money legs
  pub fits : FitBeside rows placed bid.path.kind legs

-- what the bid is given: the first worthiest of its placeable walks, where it is kept
abbrev pub IsGiven : {R : Type 0} → Net → Rows R → List Bid → List Decision → List Entry → ℕ → Bid → Option (List Leg) → Type 0
IsGiven net rows bids node placed number bid None =
    (legs : List Leg) → IsFirstWorthiest net rows bids node placed number bid legs → IsKept net rows placed bid legs → ⊥
IsGiven net rows bids node placed number bid (Some legs) =
    IsFirstWorthiest net rows bids node placed number bid legs × IsKept net rows placed bid legs

-- the bids of these positions are given walks, one after the other, which leads from one choice to another
abbrev pub GivesInTurn : {R : Type 0} → Net → Rows R → List Bid → List Decision → List ℕ → List (Option (List Leg)) → List (Option (List Leg)) → Type 0
GivesInTurn net rows bids node [] before after = after ≡ before
GivesInTurn net rows bids node (number ∷ numbers) before after =
    (bid : Bid) × (given : Option (List Leg)) × (slice_get bids number ≡ Some bid)
    × IsGiven net rows bids node (entries_of bids before) number bid given
    × GivesInTurn net rows bids node numbers (slice_set before number given) after

-- the choice that serves no bid
abbrev pub empty_choice : List Bid → List (Option (List Leg))
empty_choice bids = map (λ _. None) bids

-- the repaired choice
pub record IsRepair {R : Type 0} (net : Net) (rows : Rows R) (bids : List Bid) (node : List Decision) (v : Valuation) (choice : List (Option (List Leg))) : Type 0 where
  pub order : List ℕ
  pub is_order : IsTakingOrder v (length bids) order
  pub gives : GivesInTurn net rows bids node order (empty_choice bids) choice
