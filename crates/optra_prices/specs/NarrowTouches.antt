-- How touches are kept in few bytes: most use their row once.
use Rattle.std.specs.Prelude.{ℕ, List, ◌++◌, map}
use Rattle.optra_prices.specs.declared.touch.Touch.{Touch}

-- past the last touch
abbrev pub no_touch : Touch
no_touch = record { row = 0; uses = 0 }

-- the touch of a row that is used once
abbrev pub touch_of : ℕ → Touch
touch_of row = record { row = row; uses = 1 }

-- the narrow touches and then the others
abbrev pub touches_of : List ℕ → List Touch → List Touch
touches_of narrow wide = map touch_of narrow ++ wide
