-- Prices of rows in 32 bits.
use Rattle.std.specs.Prelude.{ℕ, ℤ, pos, List, map}

-- the prices that stand in 32 bits
abbrev pub prices_of : List ℕ → List ℤ
prices_of narrow = map pos narrow
