-- The names of a demo: a letter and a number.
use Rattle.std.specs.Prelude.{ℕ, ◌++◌, codes}
use Rattle.std.specs.Fmt.{decimal}
use Rattle.optra_records.specs.Reading.{Field}

unfoldable pub named : Field → ℕ → Field
named letter number = letter ++ decimal number

-- the stations S1, S2 and so on
abbrev pub station_name : ℕ → Field
station_name = named (codes "S")

-- the track of a segment onwards
abbrev pub onward_name : ℕ → Field
onward_name = named (codes "T")

-- the track of a segment back
abbrev pub back_name : ℕ → Field
back_name = named (codes "U")

abbrev pub bid_name : ℕ → Field
bid_name = named (codes "b")

abbrev pub bidder_name : ℕ → Field
bidder_name = named (codes "R")
