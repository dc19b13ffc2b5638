-- How many records a table may still have, after those that were accepted.
use Rattle.std.specs.Prelude.{ℕ, ◌+◌, ◌-◌, ◌/◌, ◌%◌, zero, suc, Bool, List, [], ◌∷◌, length, is_some, if◌then◌else◌}
use Rattle.std.specs.Map.{lookup}
use Rattle.optra_network.specs.Net.{Net, CrossingKey, same_pair, same_quadruple, same_triple}
use Rattle.optra_bid.specs.Offers.{Offer}
use Rattle.optra_tables.specs.declared.TimedAct.{TimedAct}

-- how many numbers below n aren't taken
unfoldable pub free_below : (ℕ → Bool) → ℕ → ℕ
free_below taken zero = 0
free_below taken (suc n) = (if taken n then 0 else 1) + free_below taken n

unfoldable pub stations_room : Net → ℕ
stations_room net = 300 - length net.stations

unfoldable pub tracks_room : Net → ℕ
tracks_room net = 1000 - length net.tracks

unfoldable pub types_room : Net → ℕ
types_room net = 16 - length net.types

-- how many pairs of a track and a type have no running times yet
unfoldable pub running_room : Net → ℕ
running_room net = free_below (λ n. is_some (lookup (same_pair (n / 16, n % 16)) net.running)) 16000

-- how many triples of a track and two types have no headway yet
unfoldable pub headways_room : Net → ℕ
headways_room net = free_below (λ n. is_some (lookup (same_triple (n / 256, n % 256 / 16, n % 16)) net.headways)) 256000

-- the key of crossings of a number: two tracks and two types
abbrev pub quadruple_at : ℕ → CrossingKey
quadruple_at n = (n / 256000, n % 256000 / 256, n % 256 / 16, n % 16)

-- how many pairs of tracks with pairs of types have no crossing yet
unfoldable pub crossings_room : Net → ℕ
crossings_room net = free_below (λ n. is_some (lookup (same_quadruple (quadruple_at n)) net.crossings)) 256000000

abbrev pub bids_room : List Offer → ℕ
bids_room bids = 1000 - length bids

-- how many more stops the bids may have
unfoldable pub stops_room : List Offer → ℕ
stops_room [] = 0
stops_room (bid ∷ bids) = (8 - length bid.path.stops) + stops_room bids

abbrev pub actions_room : List TimedAct → ℕ
actions_room actions = 100000 - length actions
