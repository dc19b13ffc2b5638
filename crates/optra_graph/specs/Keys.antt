-- Path specifications as lists of numbers, by which their graphs are found.
use Rattle.std.specs.Prelude.{ℕ, List, [], ◌∷◌, ◌++◌}
use Rattle.optra_bid.specs.Specs.{Path}
use Rattle.optra_bid.specs.declared.Stop.{Stop}

-- the numbers of a path specification without its stops
abbrev pub own_numbers : Path → List ℕ
own_numbers path =
    path.kind.0 ∷ path.origin.0 ∷ path.destination.0 ∷ path.wait_max
    ∷ path.depart.from ∷ path.depart.ideal ∷ path.depart.to ∷ path.arrive.from ∷ path.arrive.ideal ∷ path.arrive.to ∷ []

-- the numbers of a stop
abbrev pub stop_numbers : Stop → List ℕ
stop_numbers stop = stop.station.0 ∷ stop.min_dwell ∷ stop.max_dwell ∷ stop.arrive.from ∷ stop.arrive.to ∷ []

-- the numbers of stops
abbrev pub stops_numbers : List Stop → List ℕ
stops_numbers [] = []
stops_numbers (stop ∷ stops) = stop_numbers stop ++ stops_numbers stops

-- the numbers of a path specification, which tell it
unfoldable pub numbers_of : Path → List ℕ
numbers_of path = own_numbers path ++ stops_numbers path.stops
