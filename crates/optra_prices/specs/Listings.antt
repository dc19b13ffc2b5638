-- Prices and capacities by the numbers of rows.
use Rattle.std.specs.Prelude.{◌≡◌, ℕ, zero, suc, List, [], ◌∷◌, ◌++◌, slice_get, replicate, slice_index, slice_index_or, ℤ, pos, ◌+ℤ◌, ◌*ℤ◌}
use Rattle.std.specs.Option.{option_map_or}
use Rattle.optra_node.specs.Duals.{sum_of}

-- the price of a row that stands with its number
abbrev pub price_at : {R : Type 0} → List ℤ → R × ℕ → ℤ
price_at prices e = slice_index_or prices e.1 (pos 0)

-- the price of all capacity of rows that stand with their numbers
abbrev pub capacity_sum : {R : Type 0} → List (R × ℕ) → List ℤ → List ℕ → ℤ
capacity_sum order prices capacities = sum_of (λ e. price_at prices e *ℤ pos (slice_index capacities e.1)) order

-- the sum over the numbers below n
abbrev pub sum_below : (ℕ → ℤ) → ℕ → ℤ
sum_below f zero = pos 0
sum_below f (suc n) = sum_below f n +ℤ f n

-- the price of all capacity of the first rows by number
abbrev pub capacity_below : List ℤ → List ℕ → ℕ → ℤ
capacity_below prices capacities n = sum_below (λ k. slice_index_or prices k (pos 0) *ℤ pos (slice_index capacities k)) n

-- the rows with these numbers, each with its number
abbrev pub rows_at : {R : Type 0} → List R → List ℕ → List (R × ℕ)
rows_at numbered [] = []
rows_at numbered (n ∷ ns) = option_map_or (λ row. (row, n) ∷ rows_at numbered ns) (slice_get numbered n) (rows_at numbered ns)

-- more prices, all of which are 0
abbrev pub AddsZeros : List ℤ → List ℤ → Type 0
AddsZeros old new = (n : ℕ) × (new ≡ old ++ replicate n (pos 0))
