-- The leg on which a node is split.
use Rattle.std.specs.Prelude.{◌≡◌, ◌⊎◌, ℕ, ◌+◌, ◌<◌, ◌≤◌, Bool, true, false, not, ◌&&◌, nat_eq, List, [], ◌∷◌, ◌++◌, map, count_by, Option, None, Some, slice_get, All}
use Rattle.std.specs.List.{list_any}
use Rattle.std.specs.Ordering.{is_eq, is_gt, bool_cmp}
use Rattle.optra_network.specs.Net.{Net}
use Rattle.optra_bid.specs.declared.bids.Bid.{Bid}
use Rattle.optra_walk.specs.declared.Leg.{Leg}
use Rattle.optra_walk.specs.Families.{Rows}
use Rattle.optra_walk.specs.Orders.{action_cmp, walk_cmp}
use Rattle.optra_node.specs.declared.Decision.{Decision}
use Rattle.optra_node.specs.Nodes.{is_yes_for, uses_at, IsAllowed}
use Rattle.optra_prices.specs.Steps.{reply_load}

-- whether two legs are the same
abbrev pub same_leg : Leg → Leg → Bool
same_leg a b = nat_eq a.track.0 b.track.0 && nat_eq a.depart b.depart && is_eq (bool_cmp a.from_halt b.from_halt) && is_eq (action_cmp a.action b.action)

-- whether the leg is a yes leg of the bid
abbrev pub is_fixed : List Decision → ℕ → Leg → Bool
is_fixed node bid leg = list_any (λ d. is_yes_for bid d && same_leg d.leg leg) node

-- the leg is not a yes leg of the bid
abbrev pub IsFree : List Decision → ℕ → Leg → Type 0
IsFree node bid leg = is_fixed node bid leg ≡ false

-- how many legs are not yes legs of the bid
abbrev pub free_count : List Decision → ℕ → List Leg → ℕ
free_count node bid legs = count_by (λ leg. not (is_fixed node bid leg)) legs

-- the first element of which something holds
pub record IsFirst {X : Type 0} (P : X → Type 0) (xs : List X) (x : X) : Type 0 where
  pub place : ℕ
  pub at : slice_get xs place ≡ Some x
  pub is : P x
  pub first : (k : ℕ) (earlier : X) → k < place → slice_get xs k ≡ Some earlier → P earlier → ⊥

-- it holds of no element
abbrev pub HoldsOfNone : {X : Type 0} → (X → Type 0) → List X → Type 0
HoldsOfNone P xs = All (λ x. P x → ⊥) xs

-- the first element of which it holds; none where it holds of no element
abbrev pub IsFirstOrNone : {X : Type 0} → (X → Type 0) → List X → Option X → Type 0
IsFirstOrNone P xs None = HoldsOfNone P xs
IsFirstOrNone P xs (Some x) = IsFirst P xs x

-- the legs of the replies from this bid on, by bid and then along the reply, each with its bid
abbrev pub legs_from : ℕ → List (Option (List Leg)) → List (ℕ × Leg)
legs_from number [] = []
legs_from number (None ∷ replies) = legs_from (number + 1) replies
legs_from number (Some legs ∷ replies) = map (λ leg. (number, leg)) legs ++ legs_from (number + 1) replies

abbrev pub reply_legs : List (Option (List Leg)) → List (ℕ × Leg)
reply_legs replies = legs_from 0 replies

-- the leg of the bid uses the row, and the replies use more of the row than its capacity
pub record IsCrowdedAt {R : Type 0} (rows : Rows R) (bids : List Bid) (replies : List (Option (List Leg))) (number : ℕ) (leg : Leg) (row : R) : Type 0 where
  pub is_row : rows.is_row row ≡ true
  pub used : 0 < uses_at rows bids row number leg
  pub above : rows.capacity row < reply_load rows bids replies row

-- a leg that is not fixed
abbrev pub IsFreeLeg : List Decision → ℕ × Leg → Type 0
IsFreeLeg node entry = IsFree node entry.0 entry.1

-- a leg that is not fixed and uses a row which the replies overfill
abbrev pub IsCrowdedLeg : {R : Type 0} → Rows R → List Bid → List Decision → List (Option (List Leg)) → ℕ × Leg → Type 0
IsCrowdedLeg {R} rows bids node replies entry = IsFree node entry.0 entry.1 × ((row : R) × IsCrowdedAt rows bids replies entry.0 entry.1 row)

-- of the allowed walks of the bid, the first one in walk order among those with the most legs that are not fixed
pub record IsFreest {R : Type 0} (net : Net) (rows : Rows R) (bids : List Bid) (node : List Decision) (number : ℕ) (bid : Bid) (legs : List Leg) : Type 0 where
  pub allowed : IsAllowed net rows bids node number bid legs
  pub most : (other : List Leg) → IsAllowed net rows bids node number bid other → free_count node number other ≤ free_count node number legs
  pub first : (other : List Leg) → IsAllowed net rows bids node number bid other → free_count node number other ≡ free_count node number legs
      → is_gt (walk_cmp legs other) ≡ false

-- no allowed walk of the bid has a leg that is not fixed
abbrev pub IsSettled : {R : Type 0} → Net → Rows R → List Bid → List Decision → ℕ → Bid → Type 0
IsSettled net rows bids node number bid = (legs : List Leg) → IsAllowed net rows bids node number bid legs → HoldsOfNone (IsFree node number) legs

-- of the first bid that has an allowed walk with a leg that is not fixed, the first such leg of its freest walk
pub record IsFreestLeg {R : Type 0} (net : Net) (rows : Rows R) (bids : List Bid) (node : List Decision) (number : ℕ) (leg : Leg) : Type 0 where
  pub bid : Bid
  pub at : slice_get bids number ≡ Some bid
  pub legs : List Leg
  pub freest : IsFreest net rows bids node number bid legs
  pub is : IsFirst (IsFree node number) legs leg
  pub earlier : (n : ℕ) (b : Bid) → n < number → slice_get bids n ≡ Some b → IsSettled net rows bids node n b

-- the split leg, by the replies at the result of the price path: the first leg of a reply that is not fixed and uses a
-- row which the replies overfill; without one, the first leg of a reply that is not fixed; without one, the first leg
-- that is not fixed of the freest walk of the first bid that has such a walk
abbrev pub IsSplitLeg : {R : Type 0} → Net → Rows R → List Bid → List Decision → List (Option (List Leg)) → ℕ → Leg → Type 0
IsSplitLeg net rows bids node replies number leg =
    IsFirst (IsCrowdedLeg rows bids node replies) (reply_legs replies) (number, leg)
    ⊎ ((HoldsOfNone (IsCrowdedLeg rows bids node replies) (reply_legs replies) × IsFirst (IsFreeLeg node) (reply_legs replies) (number, leg))
    ⊎ (HoldsOfNone (IsFreeLeg node) (reply_legs replies) × IsFreestLeg net rows bids node number leg))
