-- How much is used of rows, beside their capacities.
use Rattle.std.specs.Prelude.{◌≡◌, ◌+◌, ◌≤◌, ◌<◌, ℕ, Bool, true, false, List, length, map, replicate, slice_index, slice_set}
use Rattle.optra_prices.specs.declared.narrow_loads.NarrowLoad.{NarrowLoad}
use Rattle.optra_prices.specs.declared.wide_loads.Load.{Load}

-- how much is used of each row, and how much there is of it
pub record RowLoads : Type 0 where
  pub uses : List ℕ
  pub capacities : List ℕ

-- past the last row
abbrev pub no_load : Load
no_load = record { used = 0; capacity = 0 }

-- what is used of rows
abbrev pub uses_in : List Load → List ℕ
uses_in rows = map (λ row. row.used) rows

-- the capacities
abbrev pub capacities_in : List Load → List ℕ
capacities_in rows = map (λ row. row.capacity) rows

-- past the last row, of those below 2^8
abbrev pub no_narrow_load : NarrowLoad
no_narrow_load = record { used = 0; capacity = 0 }

-- what is used of rows, where all is below 2^8
abbrev pub used_in : List NarrowLoad → List ℕ
used_in rows = map (λ row. row.used) rows

-- their capacities
abbrev pub narrow_capacities_in : List NarrowLoad → List ℕ
narrow_capacities_in rows = map (λ row. row.capacity) rows

-- as many rows of the same capacities, of which nothing is used
pub record IsUnused (old new : RowLoads) : Type 0 where
  pub uses : new.uses ≡ replicate (length old.uses) 0
  pub capacities : new.capacities ≡ old.capacities

-- so much is used of the row with this number, and all else is as it was
pub record SetsUses (number uses : ℕ) (old new : RowLoads) : Type 0 where
  pub uses_are : new.uses ≡ slice_set old.uses number uses
  pub capacities : new.capacities ≡ old.capacities

-- one more use of the row with this number fits
abbrev pub FitsOnce : RowLoads → ℕ → Type 0
FitsOnce loads number = slice_index loads.uses number + 1 ≤ slice_index loads.capacities number

-- one more use of each row fits
abbrev pub FitEach : RowLoads → Type 0
FitEach loads = (number : ℕ) → number < length loads.uses → FitsOnce loads number

-- one more is used of the row with this number, for which there is room, or all is as it was
pub record AddsOnce (number : ℕ) (added : Bool) (old new : RowLoads) : Type 0 where
  pub room : added ≡ true → FitsOnce old number
  pub adds : added ≡ true → SetsUses number (slice_index old.uses number + 1) old new
  pub stays : added ≡ false → new ≡ old
