-- The ranges of prices, by name. Those of money are in cents, and all others in thousandths of a cent.
use Rattle.std.specs.Prelude.{ℕ, ℤ, pos}
use Rattle.optra_bid.specs.Specs.{IsBetween}
use Rattle.optra_walk.specs.Shares.{IsAddedCents}

-- the greatest price of a row
abbrev pub most_price : ℕ
most_price = 2000000000000

-- the greatest capacity of a row
abbrev pub most_capacity : ℕ
most_capacity = 65535

-- what a bid offers at most
abbrev pub IsBase : ℤ → Type 0
IsBase cents = IsBetween (pos 0) (pos 1000000000) cents

-- what an arc adds apart from the prices of rows, in cents
abbrev pub IsArcCents : ℤ → Type 0
IsArcCents cents = IsAddedCents cents

-- the length of a price step
abbrev pub IsStepLength : ℤ → Type 0
IsStepLength length = IsBetween (pos 1) (pos 1000000000000) length

-- the price of a row's capacity
abbrev pub IsCapacityPrice : ℤ → Type 0
IsCapacityPrice price = IsBetween (pos 0) (pos 131070000000000000) price

-- the price of the capacity of all rows, of which there are fewer than 2^64
abbrev pub IsWholePrice : ℤ → Type 0
IsWholePrice price = IsBetween (pos 0) (pos 2417851639229258349412352000000000000) price
