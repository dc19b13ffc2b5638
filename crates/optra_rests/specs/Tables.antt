-- Tables of the best rests of states.
use Rattle.std.specs.Prelude.{◌≡◌, ℕ, zero, suc, ◌+◌, ◌≤◌, ◌&&◌, nat_lt, nat_le, true, length, slice_index, slice_index_or, Option, None, Some, if◌then◌else◌, Bool, List, map}
use Rattle.std.specs.Prelude.{ℤ, pos, negsuc}
use Rattle.optra_network.specs.Net.{Net}
use Rattle.optra_bid.specs.declared.bids.Bid.{Bid}
use Rattle.optra_walk.specs.declared.Leg.{Leg}
use Rattle.optra_rests.specs.Weights.{Weights}
use Rattle.optra_rests.specs.Places.{IsPlaced, IsSmall, place_of, places_of}
use Rattle.optra_rests.specs.Settings.{IsSetting}
use Rattle.optra_rests.specs.Reaches.{from_origin, to_destination, IsReach, IsReached, WasTime}
use Rattle.optra_walk.specs.Moves.{IsMove, IsAfter}
use Rattle.optra_rests.specs.Rests.{IsBestRest, AnyLeg}
use Rattle.optra_walk.specs.declared.state.State.{State}
use Rattle.optra_rests.specs.declared.rest_table.RestTable.{RestTable}

-- a table with an entry for each place, and minutes for each station
pub record IsTable (table : RestTable) : Type 0 where
  pub small : IsSmall table.layout
  pub len : places_of table.layout ≤ length table.rests.items
  pub from : length (from_origin table.reach) ≡ table.layout.stations
  pub on : length (to_destination table.reach) ≡ table.layout.stations

-- the rest that a number stands for; none for one above zero
abbrev pub rest_in : ℤ → Option ℤ
rest_in (pos zero) = Some (pos 0)
rest_in (pos (suc n)) = None
rest_in (negsuc n) = Some (negsuc n)

-- the rests of all places
abbrev pub rests_of : RestTable → List (Option ℤ)
rests_of table = map rest_in table.rests.items

-- what stands at a place
abbrev pub entry_at : RestTable → ℕ → Option ℤ
entry_at table place = slice_index_or (rests_of table) place None

-- the minute behind the last one of the table
abbrev pub end_of : RestTable → ℕ
end_of table = table.layout.first + table.layout.minutes

-- whether the table has minutes for the state, and a walk may still end in time from there
abbrev pub is_early : RestTable → State → Bool
is_early table s = nat_lt s.minute (end_of table) && nat_le (s.minute + slice_index (to_destination table.reach) s.station.0) (end_of table)

-- what the table has for the state; nothing where it is too late
abbrev pub rest_at : RestTable → State → Option ℤ
rest_at table s = if is_early table s then entry_at table (place_of table.layout s) else None

-- the best rest of the state stands at its place
abbrev pub HasBest : Weights → Net → Bid → RestTable → State → Type 0
HasBest w net bid table s = IsBestRest w net bid s AnyLeg (entry_at table (place_of table.layout s))

-- a table for walks of the bid, with the best rests of the states from a place on in which a train may be, by way of the
-- stops that it has done, and that are not too late
pub record IsFilled (w : Weights) (net : Net) (bid : Bid) (table : RestTable) (from : ℕ) : Type 0 where
  pub is_table : IsTable table
  pub setting : IsSetting net bid.path table.layout
  pub reach : IsReach net bid.path table.reach
  pub each : (s : State) → IsPlaced table.layout s → from ≤ place_of table.layout s → IsReached bid.path table.reach s
      → WasTime bid.path table.reach s → is_early table s ≡ true → HasBest w net bid table s

-- the state has a place, and the table has the best rests of all states that come right after it
pub record IsReadyFor (w : Weights) (net : Net) (bid : Bid) (table : RestTable) (s : State) : Type 0 where
  pub is_table : IsTable table
  pub setting : IsSetting net bid.path table.layout
  pub reach : IsReach net bid.path table.reach
  pub placed : IsPlaced table.layout s
  pub later : (leg : Leg) (after : State) → IsMove net bid.path s leg → IsAfter net bid.path s leg after → IsPlaced table.layout after → is_early table after ≡ true → HasBest w net bid table after
