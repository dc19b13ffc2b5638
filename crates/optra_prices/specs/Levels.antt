-- The prices of rows by number, of which few are above zero.
use Rattle.std.specs.Prelude.{◌≡◌, ◌⊎◌, ℕ, ◌+◌, ◌<◌, ◌≤◌, Bool, true, false, List, [], ◌∷◌, length, slice_set, slice_index, slice_index_or, All, Contains}
use Rattle.std.specs.Prelude.{ℤ, pos}
use Rattle.optra_prices.specs.Listings.{capacity_below}
use Rattle.optra_prices.specs.Steps.{next_price}
use Rattle.optra_prices.specs.Tables.{IsRowPrice}
use Rattle.optra_prices.specs.declared.levels.Levels.{Levels}

-- the price of the row with this number
abbrev pub price_of : Levels → ℕ → ℤ
price_of l n = slice_index_or l.prices.items n (pos 0)

-- how much is used of it
abbrev pub use_of : Levels → ℕ → ℕ
use_of l n = slice_index l.loads.uses n

-- its capacity
abbrev pub capacity_of : Levels → ℕ → ℕ
capacity_of l n = slice_index l.loads.capacities n

-- whether it is marked as active
abbrev pub is_listed : Levels → ℕ → Bool
is_listed l n = slice_index_or l.listed.items n false

-- its next price by a step of this length
abbrev pub next_at : ℤ → Levels → ℕ → ℤ
next_at by l n = next_price by (price_of l n) (use_of l n) (capacity_of l n)

-- the row has no price and no more uses than capacity
abbrev pub IsIdle : Levels → ℕ → Type 0
IsIdle l n = (price_of l n ≡ pos 0) × (use_of l n ≤ capacity_of l n)

-- no number stands twice
abbrev pub StandOnce : List ℕ → Type 0
StandOnce xs = (i j : ℕ) → i < j → j < length xs → slice_index xs i ≡ slice_index xs j → ⊥

-- a price, a use, a capacity and a mark for each row; those with a price or more uses than capacity are active, and none twice; the price of all capacity
pub record IsLevels (l : Levels) : Type 0 where
  pub use_count : length l.loads.uses ≡ length l.prices.items
  pub capacity_count : length l.loads.capacities ≡ length l.prices.items
  pub mark_count : length l.listed.items ≡ length l.prices.items
  pub range : All IsRowPrice l.prices.items
  pub small : All (λ capacity. capacity ≤ 65535) l.loads.capacities
  pub capacity_is : l.capacity ≡ capacity_below l.prices.items l.loads.capacities (length l.prices.items)
  pub within : All (λ n. n < length l.prices.items) l.active.items
  pub once : StandOnce l.active.items
  pub marked : All (λ n. is_listed l n ≡ true) l.active.items
  pub found : (n : ℕ) → is_listed l n ≡ true → Contains l.active.items n
  pub covers : (n : ℕ) → n < length l.prices.items → IsIdle l n ⊎ Contains l.active.items n

-- nothing is used
abbrev pub AreUnused : Levels → Type 0
AreUnused l = (n : ℕ) → use_of l n ≡ 0

-- prices stay
pub record KeepsPrices (old new : Levels) : Type 0 where
  pub prices : new.prices ≡ old.prices
  pub capacities : new.loads.capacities ≡ old.loads.capacities

-- uses stay
pub record KeepsUses (old new : Levels) : Type 0 where
  pub uses : new.loads.uses ≡ old.loads.uses
  pub capacities : new.loads.capacities ≡ old.loads.capacities

-- the row is active, all else is as it was, and so is the list of active rows where it has the row
pub record Wakes (number : ℕ) (old new : Levels) : Type 0 where
  pub prices : new.prices ≡ old.prices
  pub uses : new.loads.uses ≡ old.loads.uses
  pub capacities : new.loads.capacities ≡ old.loads.capacities
  pub here : Contains new.active.items number
  pub same : is_listed old number ≡ true → new.active ≡ old.active

-- the row is active where the uses are more than its capacity, and all else is as it was
pub record WakesAbove (number uses : ℕ) (old new : Levels) : Type 0 where
  pub prices : new.prices ≡ old.prices
  pub uses_are : new.loads.uses ≡ old.loads.uses
  pub capacities : new.loads.capacities ≡ old.loads.capacities
  pub here : (uses ≤ capacity_of new number) ⊎ Contains new.active.items number

-- the row stands at this place or at one after it
pub record IsLeft (active : List ℕ) (k n : ℕ) : Type 0 where
  pub place : ℕ
  pub from : k ≤ place
  pub within : place < length active
  pub is : slice_index active place ≡ n

-- what was left from place k on is left from the next place on, but for the row at place k; there are fewer
pub record GoesOn (k next : ℕ) (old new : List ℕ) : Type 0 where
  pub kept : (n : ℕ) → IsLeft old k n → (slice_index old k ≡ n) ⊎ IsLeft new next n
  pub left : (n : ℕ) → IsLeft new next n → IsLeft old k n × (slice_index old k ≡ n → ⊥)
  pub fewer : length new + k < length old + next
  pub within : next ≤ length new

-- the row at place k may have been let go; all else is as it was
pub record Rests (k next : ℕ) (old new : Levels) : Type 0 where
  pub prices : new.prices ≡ old.prices
  pub uses : new.loads.uses ≡ old.loads.uses
  pub capacities : new.loads.capacities ≡ old.loads.capacities
  pub on : GoesOn k next old.active.items new.active.items

-- the row at place k has the price, and may have been let go
pub record MovesRow (k : ℕ) (price : ℤ) (next : ℕ) (old new : Levels) : Type 0 where
  pub prices : new.prices.items ≡ slice_set old.prices.items (slice_index old.active.items k) price
  pub rest : KeepsUses old new
  pub on : GoesOn k next old.active.items new.active.items

-- each row has the price that it was to have
pub record MovesTo (to : ℕ → ℤ) (old new : Levels) : Type 0 where
  pub count : length new.prices.items ≡ length old.prices.items
  pub each : (n : ℕ) → n < length old.prices.items → price_of new n ≡ to n

-- a row by its number with a price
abbrev pub IsMove : ℕ → ℕ × ℤ → Type 0
IsMove count move = (move.0 < count) × IsRowPrice move.1

-- prices after rows are given these, one after the other
abbrev pub moved_by : List (ℕ × ℤ) → List ℤ → List ℤ
moved_by [] prices = prices
moved_by (move ∷ moves) prices = moved_by moves (slice_set prices move.0 move.1)

-- rows with their prices; each other row has price 0
pub record HoldsPrices (l : Levels) (moves : List (ℕ × ℤ)) : Type 0 where
  pub are : All (IsMove (length l.prices.items)) moves
  pub each : All (λ move. move.1 ≡ price_of l move.0) moves
  pub others : (n : ℕ) → n < length l.prices.items → (price_of l n ≡ pos 0) ⊎ Contains moves (n, price_of l n)
