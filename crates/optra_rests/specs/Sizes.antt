-- How much rests and costs come to.
use Rattle.std.specs.Prelude.{ℕ, ℤ, pos, negsuc, ◌<◌, ◌≤◌}
use Rattle.optra_bid.specs.Specs.{IsBetween}

-- at most 2^74 below zero
abbrev pub IsWholeRest : ℤ → Type 0
IsWholeRest z = IsBetween (negsuc 18889465931478580854783) (pos 0) z

-- 0 to 2^60
abbrev pub IsCost : ℤ → Type 0
IsCost z = IsBetween (pos 0) (pos 1152921504606846976) z

-- at most the greatest price of a row, in thousandths of a cent
abbrev pub IsRowPrice : ℤ → Type 0
IsRowPrice z = IsBetween (pos 0) (pos 2000000000000) z

-- at most the greatest price of a leg, which uses at most 8,192
abbrev pub IsLegPrice : ℤ → Type 0
IsLegPrice z = IsBetween (pos 0) (pos 16384000000000000) z

-- at most the greatest price of all capacity
abbrev pub IsCapacityPrice : ℤ → Type 0
IsCapacityPrice z = IsBetween (pos 0) (pos 2417851639229258349412352000000000000) z

-- at most as many places as a layout has
abbrev pub IsPlaceCount : ℕ → Type 0
IsPlaceCount n = n ≤ 15552000

-- the number of a minute and a station
abbrev pub IsSpot : ℕ → Type 0
IsSpot n = n < 863700

-- the number of any stops done and a mode
abbrev pub IsAnySlot : ℕ → Type 0
IsAnySlot n = n < 131072
