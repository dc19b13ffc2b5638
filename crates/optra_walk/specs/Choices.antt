-- Choices of walks: their uses, their conflicts and their revenue.
use Rattle.std.specs.Prelude.{◌≡◌, ◌≢◌, ℕ, ℤ, pos, List, [], ◌∷◌, map, Option, None, Some, slice_get, IfSome}
use Rattle.std.specs.Prelude.{◌+ℤ◌, ◌≤ℤ◌}
use Rattle.std.specs.List.{AllZip}
use Rattle.optra_network.specs.Net.{Net}
use Rattle.optra_network.specs.Conflict.{AreCompatible}
use Rattle.optra_network.specs.declared.TrackUse.{TrackUse}
use Rattle.optra_bid.specs.declared.bids.Bid.{Bid}
use Rattle.optra_walk.specs.declared.Leg.{Leg}
use Rattle.optra_walk.specs.Walks.{IsWalk}
use Rattle.optra_walk.specs.Values.{value_of}
use Rattle.optra_walk.specs.Families.{entries_of, use_of_entry}
use Rattle.optra_walk.specs.Rules.{KeepsCrossings, KeepsHalts}

-- one entry for each bid, and each entry that is there is a walk of its bid
abbrev pub IsChoice : Net → List Bid → List (Option (List Leg)) → Type 0
IsChoice net bids walks = AllZip (λ bid walk. IfSome walk (IsWalk net bid.path)) bids walks

-- the uses of all legs of all walks, in one list
abbrev pub uses_of : List Bid → List (Option (List Leg)) → List TrackUse
uses_of bids walks = map use_of_entry (entries_of bids walks)

-- the uses at every two different places of the list are compatible, two of one train included
abbrev pub KeepsHeadways : Net → List TrackUse → Type 0
KeepsHeadways net uses =
    (i j : ℕ) (a b : TrackUse) → i ≢ j → slice_get uses i ≡ Some a → slice_get uses j ≡ Some b → AreCompatible net a b

-- a choice whose uses keep the headways and the crossings, and whose legs keep the limits of stations
pub record IsConflictFree (net : Net) (bids : List Bid) (walks : List (Option (List Leg))) : Type 0 where
  pub choice : IsChoice net bids walks
  pub headways : KeepsHeadways net (uses_of bids walks)
  pub crossings : KeepsCrossings net (uses_of bids walks)
  pub halts : KeepsHalts net (entries_of bids walks)

-- the sum of the values of the walks
abbrev pub revenue_of : Net → List Bid → List (Option (List Leg)) → ℤ
revenue_of net [] walks = pos 0
revenue_of net (bid ∷ bids) [] = pos 0
revenue_of net (bid ∷ bids) (None ∷ walks) = revenue_of net bids walks
revenue_of net (bid ∷ bids) (Some legs ∷ walks) = value_of net bid.path bid.money legs +ℤ revenue_of net bids walks

-- free of conflict, and no choice that is free of conflict earns more
pub record IsOptimal (net : Net) (bids : List Bid) (walks : List (Option (List Leg))) : Type 0 where
  pub free : IsConflictFree net bids walks
  pub most : (other : List (Option (List Leg))) → IsConflictFree net bids other → revenue_of net bids other ≤ℤ revenue_of net bids walks
