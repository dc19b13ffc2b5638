-- Rows of which more is used than their capacity.
use Rattle.std.specs.Prelude.{◌≡◌, ◌⊎◌, ℕ, ◌<◌, true, List, Option, Some, slice_get, All, Contains}
use Rattle.optra_bid.specs.declared.bids.Bid.{Bid}
use Rattle.optra_walk.specs.declared.Leg.{Leg}
use Rattle.optra_walk.specs.Families.{Rows}
use Rattle.optra_prices.specs.Levels.{IsLeft, use_of, capacity_of}
use Rattle.optra_prices.specs.Steps.{reply_load}
use Rattle.optra_prices.specs.declared.levels.Levels.{Levels}

-- a row is listed exactly where the replies use more of it than its capacity
pub record AreOverfilled {R : Type 0} (rows : Rows R) (bids : List Bid) (replies : List (Option (List Leg))) (listed : List R) : Type 0 where
  pub sound : All (λ row. (rows.is_row row ≡ true) × (rows.capacity row < reply_load rows bids replies row)) listed
  pub whole : (row : R) → rows.is_row row ≡ true → rows.capacity row < reply_load rows bids replies row → Contains listed row

-- more is used of the row with number n than its capacity
abbrev pub IsAbove : Levels → ℕ → Type 0
IsAbove l n = capacity_of l n < use_of l n

-- the row has a number, and more is used of it than its capacity
abbrev pub IsRowAbove : {R : Type 0} → List R → Levels → R → Type 0
IsRowAbove numbered l row = (n : ℕ) × (slice_get numbered n ≡ Some row) × IsAbove l n

-- the rows of which more is used than their capacity are listed
pub record ListsAbove {R : Type 0} (numbered : List R) (l : Levels) (listed : List R) : Type 0 where
  pub sound : All (IsRowAbove numbered l) listed
  pub whole : (row : R) → IsRowAbove numbered l row → Contains listed row

-- each of them is listed so far, or its number is left at place k of the active ones or after it
pub record ListsAboveTo {R : Type 0} (numbered : List R) (l : Levels) (k : ℕ) (listed : List R) : Type 0 where
  pub sound : All (IsRowAbove numbered l) listed
  pub rest : (n : ℕ) (row : R) → slice_get numbered n ≡ Some row → IsAbove l n → Contains listed row ⊎ IsLeft l.active.items k n
