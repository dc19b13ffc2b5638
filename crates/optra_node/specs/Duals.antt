-- The dual value of a node at prices, in thousandths of a cent.
use Rattle.std.specs.Prelude.{◌≡◌, ℕ, Bool, true, false, cond, List, length, All, ◌⊎◌, Some, slice_get}
use Rattle.std.specs.Prelude.{ℤ, pos, ◌+ℤ◌, ◌-ℤ◌, ◌*ℤ◌, ◌≤ℤ◌}
use Rattle.std.specs.Int.{int_div_euclid}
use Rattle.optra_network.specs.Net.{Net}
use Rattle.optra_network.specs.declared.TypeId.{TypeId}
use Rattle.optra_bid.specs.declared.bids.Bid.{Bid}
use Rattle.optra_walk.specs.declared.Leg.{Leg}
use Rattle.optra_walk.specs.Families.{Rows}
pub use Rattle.optra_walk.specs.Shares.{sum_of}
use Rattle.optra_walk.specs.Values.{value_of}
use Rattle.optra_node.specs.declared.Decision.{Decision}
use Rattle.optra_node.specs.Nodes.{has_yes, IsAllowed}

-- prices, of the rows that are listed; each other row has price 0
abbrev pub PriceList : Type 0 → Type 0
PriceList R = List (R × ℤ)

-- the row is one of the family, and its price is one that a certificate may list
pub record IsPrice {R : Type 0} (rows : Rows R) (entry : R × ℤ) : Type 0 where
  pub is_row : rows.is_row entry.0 ≡ true
  pub least : pos 1 ≤ℤ entry.1
  pub most : entry.1 ≤ℤ pos 2000000000000

abbrev pub ArePrices : {R : Type 0} → Rows R → PriceList R → Type 0
ArePrices rows prices = All (IsPrice rows) prices

-- the price of a leg: over the listed rows, price times use
abbrev pub leg_price : {R : Type 0} → Rows R → PriceList R → TypeId → Leg → ℤ
leg_price rows prices kind leg = sum_of (λ e. e.1 *ℤ pos (rows.uses kind leg e.0)) prices

abbrev pub walk_price : {R : Type 0} → Rows R → PriceList R → TypeId → List Leg → ℤ
walk_price rows prices kind legs = sum_of (leg_price rows prices kind) legs

-- the price of all capacity
abbrev pub capacity_price : {R : Type 0} → Rows R → PriceList R → ℤ
capacity_price rows prices = sum_of (λ e. e.1 *ℤ pos (rows.capacity e.0)) prices

-- what a walk is worth at prices
abbrev pub reduced_value : {R : Type 0} → Net → Rows R → PriceList R → Bid → List Leg → ℤ
reduced_value net rows prices bid legs = pos 1000 *ℤ value_of net bid.path bid.money legs -ℤ walk_price rows prices bid.path.kind legs

-- the greatest of some numbers
pub record IsGreatest (C : ℤ → Type 0) (n : ℤ) : Type 0 where
  pub reached : C n
  pub most : (m : ℤ) → C m → m ≤ℤ n

-- the reduced values of the allowed walks, and zero where the bid has no yes leg
abbrev pub IsOffer : {R : Type 0} → Net → Rows R → List Bid → List Decision → PriceList R → ℕ → Bid → ℤ → Type 0
IsOffer net rows bids node prices number bid n =
    ((has_yes node number ≡ false) × (n ≡ pos 0))
    ⊎ ((legs : List Leg) × IsAllowed net rows bids node number bid legs × (n ≡ reduced_value net rows prices bid legs))

-- the bid has a yes leg and no allowed walk
pub record IsStuck {R : Type 0} (net : Net) (rows : Rows R) (bids : List Bid) (node : List Decision) (number : ℕ) (bid : Bid) : Type 0 where
  pub yes : has_yes node number ≡ true
  pub none : (legs : List Leg) → IsAllowed net rows bids node number bid legs → ⊥

-- the bid's term: the greatest offer, and 0 where the bid is stuck
abbrev pub IsTerm : {R : Type 0} → Net → Rows R → List Bid → List Decision → PriceList R → ℕ → Bid → ℤ → Type 0
IsTerm net rows bids node prices number bid n =
    IsGreatest (IsOffer net rows bids node prices number bid) n ⊎ (IsStuck net rows bids node number bid × (n ≡ pos 0))

-- some bid is stuck
abbrev pub IsDead : {R : Type 0} → Net → Rows R → List Bid → List Decision → Type 0
IsDead net rows bids node = (number : ℕ) × (bid : Bid) × (slice_get bids number ≡ Some bid) × IsStuck net rows bids node number bid

-- one term for each bid, and the dual value, which is 0 where some bid is stuck
pub record IsDual {R : Type 0} (net : Net) (rows : Rows R) (bids : List Bid) (node : List Decision) (prices : PriceList R) (terms : List ℤ) (value : ℤ) : Type 0 where
  pub count : length terms ≡ length bids
  pub each : (number : ℕ) (bid : Bid) (term : ℤ) → slice_get bids number ≡ Some bid → slice_get terms number ≡ Some term → IsTerm net rows bids node prices number bid term
  pub total : ((IsDead net rows bids node → ⊥) × (value ≡ capacity_price rows prices +ℤ sum_of (λ t. t) terms)) ⊎ (IsDead net rows bids node × (value ≡ pos 0))

-- thousandths of a cent as whole cents, rounded down
abbrev pub whole_cents : ℤ → ℤ
whole_cents value = int_div_euclid value (pos 1000)

-- the price of a row by a test for equal rows; 0 where it is not listed
abbrev pub price_of : {R : Type 0} → (R → R → Bool) → PriceList R → R → ℤ
price_of same prices row = sum_of (λ e. cond (same row e.0) e.1 (pos 0)) prices
